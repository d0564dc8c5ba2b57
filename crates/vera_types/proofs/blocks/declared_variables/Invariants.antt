use Rattle.std.proofs.Common.{◌≡◌, drop}
use Rattle.typing_rules.specs.Blocks.{declared_variable}
use Rattle.typing_rules.specs.Checked.{each}
use Rattle.vera_names.specs.Lists.{behind}
use Rattle.vera_types.proofs.blocks.declared_variables.Given as goal

abbrev pub invariant-loop-variable : goal.invariant-loop-variable
invariant-loop-variable l = behind l.typed (each (declared_variable l.sight) (drop l.variable-index l.variables)) ≡ each (declared_variable l.sight) l.variables
