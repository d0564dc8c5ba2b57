use Rattle.std.proofs.Common.{◌≡◌, drop}
use Rattle.typing_rules.specs.Arguments.{all_suit}
use Rattle.vera_calls.proofs.calls.all_suit.Given as goal

abbrev pub invariant-loop-at : goal.invariant-loop-at
invariant-loop-at l = all_suit l.parents (drop l.at l.parameters) (drop l.at l.arguments) ≡ all_suit l.parents l.parameters l.arguments
