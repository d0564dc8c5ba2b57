use Rattle.std.proofs.Common.{List, drop}
use Rattle.vera_decls.proofs.VariableSteps.{TypesSoFar}
use Rattle.typing_rules.specs.Scopes.{Name}
use Rattle.vera_names.specs.NameSets.{SameNames}
use Rattle.vera_decls.proofs.variables.variable_types.Given as goal

abbrev pub invariant-loop-variable : goal.invariant-loop-variable
invariant-loop-variable l = (stand : List Name) → SameNames stand l.fn.before → TypesSoFar l.scopes l.of stand l.variables l.names l.types.items (drop l.variable-index l.variables)
