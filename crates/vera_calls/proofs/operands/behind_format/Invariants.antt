use Rattle.std.proofs.Common.{◌≡◌, drop}
use Rattle.typing_rules.specs.Operands.{behind_format}
use Rattle.vera_calls.proofs.operands.behind_format.Given as goal

abbrev pub invariant-loop-at : goal.invariant-loop-at
invariant-loop-at l = behind_format (drop l.at l.arguments) ≡ behind_format l.arguments
