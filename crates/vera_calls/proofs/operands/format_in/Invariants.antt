use Rattle.std.proofs.Common.{◌≡◌, drop}
use Rattle.typing_rules.specs.Operands.{format_in}
use Rattle.vera_calls.proofs.operands.format_in.Given as goal

abbrev pub invariant-loop-argument : goal.invariant-loop-argument
invariant-loop-argument l = format_in (drop l.argument-index l.arguments) ≡ format_in l.arguments
