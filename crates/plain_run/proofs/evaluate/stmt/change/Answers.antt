use Rattle.plain_run.proofs.Steps.{changes_at}
use Rattle.plain_run.proofs.evaluate.stmt.change.Goals as goal

pub returns-in_ok-assign-in-Assign : goal.returns-in_ok-assign-in-Assign
returns-in_ok-assign-in-Assign c = changes_at _ _ _ _ _ _ c.in-Variable.is c.in-Assign.is c.in_ok-assign-in-Assign.ensures
