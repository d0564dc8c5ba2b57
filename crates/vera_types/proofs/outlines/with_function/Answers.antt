use Rattle.std.proofs.Common.{◌∷◌, rules}
use Rattle.std.specs.Prelude.{Err}
use Rattle.typing_rules.specs.Answers.{Answers}
use Rattle.typing_rules.specs.Typing.{functions_in}
use Rattle.vera_names.specs.Lists.{behind}
use Rattle.vera_types.proofs.OutlineSteps.{function_goes_at, function_stops_at}
use Rattle.vera_types.proofs.outlines.with_function.Goals as goal

pub returns-in_err-routine-in-Function : goal.returns-in_err-routine-in-Function
returns-in_err-routine-in-Function c left =
    let h : Answers (behind c.args.routines.items (functions_in c.args.scopes.now (c.args.item.now ∷ left))) (Err c.in_err-routine-in-Function.field-0.0) = function_stops_at c.args.scopes.now c.args.item.now c.in-Function.function left _ c.args.routines.items c.in-Function.is c.in_err-routine-in-Function.ensures in
    search rules

pub returns-in_ok-with_routine-in-Function : goal.returns-in_ok-with_routine-in-Function
returns-in_ok-with_routine-in-Function c left =
    function_goes_at c.args.scopes.now c.args.item.now c.in-Function.function left c.in_ok-routine-in-Function.routine c.args.routines.items _ c.in-Function.is c.in_ok-routine-in-Function.ensures c.in_ok-with_routine-in-Function.ensures
