use Rattle.std.proofs.Common.{◌≡◌, ◌++◌, drop}
use Rattle.typing_rules.specs.Formats.{conversions}
use Rattle.vera_calls.proofs.operands.conversions.Given as goal

abbrev pub invariant-loop-part : goal.invariant-loop-part
invariant-loop-part l = l.letters.items ++ conversions (drop l.part-index l.parts) ≡ conversions l.parts
