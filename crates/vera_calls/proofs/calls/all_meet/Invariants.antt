use Rattle.std.proofs.Common.{◌≡◌, drop}
use Rattle.typing_rules.specs.Arguments.{all_meet}
use Rattle.typing_rules.specs.Signatures.{wants_in}
use Rattle.vera_calls.specs.Wanting.{wants_from}
use Rattle.vera_calls.proofs.calls.all_meet.Given as goal

abbrev pub invariant-loop-at : goal.invariant-loop-at
invariant-loop-at l = all_meet (wants_from (wants_in l.call l.mode) l.at) (drop l.at l.arguments) ≡ all_meet (wants_in l.call l.mode) l.arguments
