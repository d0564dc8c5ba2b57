use Rattle.plain_run.proofs.Steps.{begins}
use Rattle.plain_run.proofs.Turns.{found_none, found_spent, found_timed, went_on, waited}
use Rattle.plain_run.proofs.evaluate.slice.run_slice.Goals as goal

pub loop-found-init : goal.loop-found-init
loop-found-init c = begins _ _ _ _ _

pub returns-in-None : goal.returns-in-None
returns-in-None c = found_none _ _ _ _ _ _ _ _ _ c.loop-found.invariant c.in_ok-found.ensures c.in-None.is

pub returns-then-ticks-eq0 : goal.returns-then-ticks-eq0
returns-then-ticks-eq0 c =
    found_spent _ _ _ _ _ _ _ _ _ _ c.loop-found.invariant c.in_ok-found.ensures c.in-Some.is c.if-ticks-eq0.true

pub loop-found-preserved : goal.loop-found-preserved
loop-found-preserved c =
    went_on _ _ _ _ _ _ _ _ _ _ c.in-GoesOn.is c.in_ok-take-in-Some.ensures _
    (found_timed _ _ _ _ _ _ _ _ _ _ c.loop-found.invariant c.in_ok-found.ensures c.in-Some.is c.if-ticks-eq0.false)

pub returns-in-Waits : goal.returns-in-Waits
returns-in-Waits c =
    waited _ _ _ _ _ _ _ _ _ _ c.in-Waits.is c.in_ok-take-in-Some.ensures _
    (found_timed _ _ _ _ _ _ _ _ _ _ c.loop-found.invariant c.in_ok-found.ensures c.in-Some.is c.if-ticks-eq0.false)
