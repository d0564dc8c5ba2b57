use Rattle.std.proofs.Common.{◌≡◌, drop}
use Rattle.typing_rules.specs.Operands.{mode_in}
use Rattle.vera_calls.proofs.operands.mode_in.Given as goal

abbrev pub invariant-loop-argument : goal.invariant-loop-argument
invariant-loop-argument l = mode_in (drop l.argument-index l.arguments) ≡ mode_in l.arguments
