use Rattle.std.proofs.Common.{◌≡◌, ◌++◌, drop}
use Rattle.typing_rules.specs.Declarations.{parameter_names}
use Rattle.typing_rules.specs.Scopes.{later}
use Rattle.vera_names.proofs.name_sets.parameters_later.Given as goal

abbrev pub invariant-loop-parameter : goal.invariant-loop-parameter
invariant-loop-parameter l = l.scope ++ later (parameter_names (drop l.parameter-index l.parameters)) ≡ later (parameter_names l.parameters)
