use Rattle.std.proofs.Common.{◌≡◌, ◌+◌, ◌≤◌, drop}
use Rattle.typing_rules.specs.Operands.{count_in}
use Rattle.vera_calls.proofs.operands.count_in.Given as goal

abbrev pub invariant-loop-argument : goal.invariant-loop-argument
invariant-loop-argument l = record {
  counted : l.count + count_in (drop l.argument-index l.arguments) ≡ count_in l.arguments;
  within : l.count ≤ l.argument-index;
}
