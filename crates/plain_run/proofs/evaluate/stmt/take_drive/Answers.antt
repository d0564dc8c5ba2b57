use Rattle.plain_run.proofs.Steps.{driven_now, driven_later}
use Rattle.plain_run.proofs.evaluate.stmt.take_drive.Goals as goal

pub returns-in-Some : goal.returns-in-Some
returns-in-Some c = driven_later c.args.drive.now _ _ _ _ c.in-Some.is

pub returns-in_ok-push-in-None : goal.returns-in_ok-push-in-None
returns-in_ok-push-in-None c =
    driven_now c.args.drive.now _ _ _ _ _ _ _ c.in-None.is c.value-value.ensures.of c.value-value.ensures.bits c.fitted.ensures c.in_ok-push-in-None.ensures.items
