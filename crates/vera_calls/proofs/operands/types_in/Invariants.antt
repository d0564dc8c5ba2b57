use Rattle.std.proofs.Common.{◌≡◌, ◌++◌, drop}
use Rattle.typing_rules.specs.Operands.{types_in}
use Rattle.vera_calls.proofs.operands.types_in.Given as goal

abbrev pub invariant-loop-argument : goal.invariant-loop-argument
invariant-loop-argument l = l.types.items ++ types_in (drop l.argument-index l.arguments) ≡ types_in l.arguments
