use Rattle.std.proofs.Common.{◌≡◌, drop}
use Rattle.not_built.specs.Passing.{first_in, link_lines}
use Rattle.not_built.proofs.expressions.+expressions.Given as goal

abbrev pub invariant-in_operands-loop-link : goal.invariant-in_operands-loop-link
invariant-in_operands-loop-link l = first_in link_lines (drop l.link-index l.links) ≡ first_in link_lines l.links
