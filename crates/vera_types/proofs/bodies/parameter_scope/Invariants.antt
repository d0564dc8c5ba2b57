use Rattle.std.proofs.Common.{◌≡◌, ◌++◌, drop}
use Rattle.typing_rules.specs.Bodies.{parameter_scope}
use Rattle.vera_types.proofs.bodies.parameter_scope.Given as goal

abbrev pub invariant-loop-at : goal.invariant-loop-at
invariant-loop-at l = l.scope ++ parameter_scope (drop l.at l.parameters) (drop l.at l.typed) ≡ parameter_scope l.parameters l.typed
