use Rattle.std.proofs.Common.{◌≡◌, drop}
use Rattle.vera_names.specs.NumberLists as lists
use Rattle.vera_names.proofs.constant_numbers.+constant_numbers.Given as goal

abbrev pub invariant-number_after-loop-link : goal.invariant-number_after-loop-link
invariant-number_after-loop-link l = lists.number_after l.scopes l.left (drop l.link-index l.links) ≡ lists.number_after l.scopes l.fn.first l.links
