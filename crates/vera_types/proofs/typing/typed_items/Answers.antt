use Rattle.std.proofs.Common.{rules}
use Rattle.std.specs.Prelude.{Err}
use Rattle.typing_rules.specs.Answers.{Answers}
use Rattle.typing_rules.specs.Bodies.{item_of}
use Rattle.typing_rules.specs.Checked.{each}
use Rattle.vera_names.proofs.Items.{each_ends}
use Rattle.vera_steps.proofs.Carried.{carried_stops, carried_goes}
use Rattle.vera_types.proofs.typing.typed_items.Goals as goal

pub returns-in_err-before : goal.returns-in_err-before
returns-in_err-before c =
    let h : Answers (each (item_of c.args.outline.now c.args.scopes.now c.args.variables.now) c.args.items.now) (Err c.in_err-before.field-0.0) = carried_stops (item_of c.args.outline.now c.args.scopes.now c.args.variables.now) c.args.items.now c.loop-item.item-index c.item-item.result _ c.loop-item.typed _ _ c.loop-item-test.true c.item-item.is c.item_of-next.ensures c.in_err-before.ensures.refused c.loop-item.invariant in
    search rules

pub loop-item-preserved : goal.loop-item-preserved
loop-item-preserved c =
    carried_goes (item_of c.args.outline.now c.args.scopes.now c.args.variables.now) c.args.items.now c.loop-item.item-index c.item-item.result _ _ c.loop-item.typed _ _ _ c.loop-item-test.true c.item-item.is c.item_of-next.ensures c.in_ok-before.ensures.second c.in_ok-before.ensures.first c.in_ok-typed.ensures c.loop-item.invariant

pub returns : goal.returns
returns c = each_ends _ _ _ _ _ c.loop-item-test.false c.loop-item.invariant
