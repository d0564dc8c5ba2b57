use Rattle.std.proofs.Common.{◌≡◌, drop}
use Rattle.not_built.specs.Passing.{all_built}
use Rattle.not_built.proofs.expressions.all_built.Given as goal

abbrev pub invariant-loop-link : goal.invariant-loop-link
invariant-loop-link l = all_built (drop l.link-index l.links) ≡ all_built l.links
