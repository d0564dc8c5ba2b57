use Rattle.plain_run.proofs.Steps.{stepped}
use Rattle.plain_run.proofs.evaluate.stmt.take_step.Goals as goal

pub returns : goal.returns
returns c = stepped c.args.step.now _ _ c.in_ok-change.ensures
