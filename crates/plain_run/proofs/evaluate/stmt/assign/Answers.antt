use Rattle.plain_run.proofs.Steps.{assigned}
use Rattle.plain_run.proofs.evaluate.stmt.assign.Goals as goal

pub returns : goal.returns
returns c =
    assigned c.args.variable.now c.args.assigned.now _ _ _ _ _ c.value-value.ensures.of c.value-value.ensures.bits c.fitted.ensures c.in_ok-set_variable.ensures
