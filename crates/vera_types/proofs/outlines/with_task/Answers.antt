use Rattle.std.proofs.Common.{◌∷◌, rules}
use Rattle.std.specs.Prelude.{Err}
use Rattle.typing_rules.specs.Answers.{Answers}
use Rattle.typing_rules.specs.Typing.{tasks_in}
use Rattle.vera_names.specs.Lists.{behind}
use Rattle.vera_types.proofs.OutlineSteps.{task_goes_at, task_stops_at}
use Rattle.vera_types.proofs.outlines.with_task.Goals as goal

pub returns-in_err-routine-in-Task : goal.returns-in_err-routine-in-Task
returns-in_err-routine-in-Task c left =
    let h : Answers (behind c.args.routines.items (tasks_in c.args.scopes.now (c.args.item.now ∷ left))) (Err c.in_err-routine-in-Task.field-0.0) = task_stops_at c.args.scopes.now c.args.item.now c.in-Task.task left _ c.args.routines.items c.in-Task.is c.in_err-routine-in-Task.ensures in
    search rules

pub returns-in_ok-with_routine-in-Task : goal.returns-in_ok-with_routine-in-Task
returns-in_ok-with_routine-in-Task c left =
    task_goes_at c.args.scopes.now c.args.item.now c.in-Task.task left c.in_ok-routine-in-Task.routine c.args.routines.items _ c.in-Task.is c.in_ok-routine-in-Task.ensures c.in_ok-with_routine-in-Task.ensures
