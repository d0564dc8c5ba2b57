use Rattle.std.proofs.Common.{◌≡◌, drop, length}
use Rattle.typing_rules.specs.Bodies.{typed_parameters}
use Rattle.vera_names.specs.Lists.{behind}
use Rattle.vera_types.proofs.bodies.typed_parameters.Given as goal

abbrev pub invariant-loop-parameter : goal.invariant-loop-parameter
invariant-loop-parameter l = behind l.typed (typed_parameters l.scopes (length l.typed) (drop l.parameter-index l.parameters)) ≡ typed_parameters l.scopes 0 l.parameters
