use Rattle.std.proofs.Common.{◌≡◌, drop}
use Rattle.not_built.specs.Passing.{first_in}
use Rattle.not_built.specs.Statements.{variable_lines}
use Rattle.not_built.proofs.statements.in_variables.Given as goal

abbrev pub invariant-loop-variable : goal.invariant-loop-variable
invariant-loop-variable l = first_in variable_lines (drop l.variable-index l.variables) ≡ first_in variable_lines l.variables
