use Rattle.std.proofs.Common.{◌≡◌, drop}
use Rattle.typing_rules.specs.Arguments.{all_settable}
use Rattle.vera_calls.specs.Wanting.{wants_told, wants_from}
use Rattle.vera_calls.proofs.calls.all_settable.Given as goal

abbrev pub invariant-loop-at : goal.invariant-loop-at
invariant-loop-at l = all_settable (wants_from (wants_told l.wanted) l.at) (drop l.at l.arguments) ≡ all_settable (wants_told l.wanted) l.arguments
