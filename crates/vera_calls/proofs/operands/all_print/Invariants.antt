use Rattle.std.proofs.Common.{◌≡◌, drop}
use Rattle.typing_rules.specs.Formats.{all_print}
use Rattle.vera_calls.proofs.operands.all_print.Given as goal

abbrev pub invariant-loop-at : goal.invariant-loop-at
invariant-loop-at l = all_print (drop l.at l.letters) (drop l.at l.types) ≡ all_print l.letters l.types
