use Rattle.std.proofs.Common.{◌≡◌, drop}
use Rattle.vera_names.specs.NameLists as lists
use Rattle.vera_names.proofs.constants.+names.Given as goal

abbrev pub invariant-exprs_known-loop-expr : goal.invariant-exprs_known-loop-expr
invariant-exprs_known-loop-expr l = lists.exprs_known l.scopes (drop l.expr-index l.exprs) ≡ lists.exprs_known l.scopes l.exprs

abbrev pub invariant-links_known-loop-link : goal.invariant-links_known-loop-link
invariant-links_known-loop-link l = lists.links_known l.scopes (drop l.link-index l.links) ≡ lists.links_known l.scopes l.links

abbrev pub invariant-suffixes_known-loop-suffix : goal.invariant-suffixes_known-loop-suffix
invariant-suffixes_known-loop-suffix l = lists.suffixes_known l.scopes (drop l.suffix-index l.suffixes) ≡ lists.suffixes_known l.scopes l.suffixes
