use Rattle.std.proofs.Common.{arith}
use Rattle.plain_run.proofs.Ran.{at_first, somewhere, further, ran}
use Rattle.plain_run.proofs.running.run.Goals as goal

pub loop-run-init : goal.loop-run-init
loop-run-init c = at_first _ _ _ _ _ _ c.in_ok-run.ensures.begun c.in_ok-run.ensures.stands

pub one_cycle-requires-clause-stands : goal.one_cycle-requires-clause-stands
one_cycle-requires-clause-stands c = somewhere _ _ _ _ _ _ c.requires.run.0 c.requires.run.1 c.loop-run.invariant

pub one_cycle-requires-clause-within : goal.one_cycle-requires-clause-within
one_cycle-requires-clause-within c = c.loop-run.invariant.within

pub returns-in-Some : goal.returns-in-Some
returns-in-Some c = ran _ _ _ _ _ _ _ _ _ _ c.in-Some.is c.in_ok-end.ensures.done c.told.ensures c.loop-run.invariant

pub loop-run-smaller : goal.loop-run-smaller
loop-run-smaller c =
    let later = c.in_ok-end.ensures.later c.in_default.is in
    let still = c.in_ok-end.ensures.still in
    omega (arith, later, still)

pub loop-run-preserved : goal.loop-run-preserved
loop-run-preserved c = further _ _ _ _ _ _ _ _ c.in_default.is c.in_ok-end.ensures.done c.in_ok-end.ensures.still c.loop-run.invariant
