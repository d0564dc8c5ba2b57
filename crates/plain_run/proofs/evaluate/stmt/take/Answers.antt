use Rattle.std.proofs.Common.{ap, sym, ◌∙◌, refl}
use Rattle.vera_meaning.specs.Rests.{Do}
use Rattle.plain_run.specs.Work.{timed_item}
use Rattle.plain_run.proofs.Steps.{loop_begins, goes_round, goes_past, waits}
use Rattle.plain_run.proofs.WorkLists.{with_item, pushed, pushed_behind}
use Rattle.plain_run.proofs.evaluate.stmt.take.Goals as goal

pub returns-in_ok-take_step-in-Step : goal.returns-in_ok-take_step-in-Step
returns-in_ok-take_step-in-Step c =
    λ goal start ticks at. c.in_ok-take_step-in-Step.ensures _ goal start _ _ ticks (with_item _ _ (ap timed_item c.in-Step.is) _ goal start _ _ _ _ at)

pub returns-in_ok-push-in-While : goal.returns-in_ok-push-in-While
returns-in_ok-push-in-While c =
    λ goal start ticks at.
    pushed _ _ _ c.in_ok-push-in-While.ensures.items _ goal start _ ticks _
    (loop_begins c.in-While.loop_.now _ goal start _ _ ticks _ (with_item _ _ (ap timed_item c.in-While.is) _ goal start _ _ _ _ at))

pub returns-in_ok-take_printf-in-Printf : goal.returns-in_ok-take_printf-in-Printf
returns-in_ok-take_printf-in-Printf c =
    λ goal start ticks at. c.in_ok-take_printf-in-Printf.ensures _ goal start _ _ ticks refl (with_item _ _ (ap timed_item c.in-Printf.is) _ goal start _ _ _ _ at)

pub returns-in_ok-take_drive-in-Drive : goal.returns-in_ok-take_drive-in-Drive
returns-in_ok-take_drive-in-Drive c =
    λ goal start ticks at. c.in_ok-take_drive-in-Drive.ensures goal start _ _ ticks refl (with_item _ _ (ap timed_item c.in-Drive.is) _ goal start _ _ _ _ at)

pub returns-in-Edge : goal.returns-in-Edge
returns-in-Edge c =
    λ goal start ticks at. waits c.in-Edge.field-0.now _ goal start _ _ ticks _ (with_item _ _ (ap timed_item c.in-Edge.is) _ goal start _ _ _ _ at)

pub returns-in_ok-push-in-Test-2 : goal.returns-in_ok-push-in-Test-2
returns-in_ok-push-in-Test-2 c =
    λ goal start ticks at.
    pushed _ _ _ c.in_ok-push-in-Test-2.ensures.items _ goal start _ ticks _
    (with_item _ _ (ap Do (sym c.get.ensures)) _ goal start _ _ ticks _
    (pushed_behind _ _ _ _ c.in_ok-push-in-Test.ensures.items _ goal start _ ticks _
    (goes_round c.in-Test.loop_.now _ _ c.holds.ensures.1 (c.holds.ensures.2 ∙ c.if-holds.true) _ goal start _ _ ticks (with_item _ _ (ap timed_item c.in-Test.is) _ goal start _ _ _ _ at))))

pub returns-else-holds : goal.returns-else-holds
returns-else-holds c =
    λ goal start ticks at.
    goes_past c.in-Test.loop_.now _ _ c.holds.ensures.1 (c.holds.ensures.2 ∙ c.if-holds.false) _ goal start _ _ ticks (with_item _ _ (ap timed_item c.in-Test.is) _ goal start _ _ _ _ at)
