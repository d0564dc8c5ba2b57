use Rattle.vera_types.proofs.OutlineSteps.{items_of_one, not_one}
use Rattle.vera_types.proofs.typing.checked_items.Goals as goal

pub returns-in-Ok : goal.returns-in-Ok
returns-in-Ok c = items_of_one c.args.items.now c.in-Ok.main.now c.typed_with.result c.in-Ok.ensures c.typed_with.ensures

pub returns-in-Err : goal.returns-in-Err
returns-in-Err c = not_one c.args.items.now c.in-Err.refusal c.in-Err.ensures
