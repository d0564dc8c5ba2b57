use Rattle.std.proofs.Common.{◌+◌, drop, rules}
use Rattle.std.specs.Prelude.{Err}
use Rattle.typing_rules.specs.Answers.{Answers}
use Rattle.typing_rules.specs.Typing.{functions_in}
use Rattle.vera_types.proofs.OutlineSteps.{leads_on, leads_nowhere, leads_to, functions_in_none}
use Rattle.vera_types.proofs.outlines.functions_in.Goals as goal

pub returns-in_err-routines : goal.returns-in_err-routines
returns-in_err-routines c =
    let h : Answers (functions_in c.args.scopes.now c.args.items.now) (Err c.in_err-routines.field-0.0) = leads_nowhere (functions_in c.args.scopes.now) c.args.items.now c.loop-item.item-index c.item-item.result c.loop-item.routines.items _ _ c.loop-item-test.true c.item-item.is (c.in_err-routines.ensures (drop (c.loop-item.item-index + 1) c.args.items.now)) c.loop-item.invariant in
    search rules

pub loop-item-preserved : goal.loop-item-preserved
loop-item-preserved c =
    leads_on (functions_in c.args.scopes.now) (functions_in c.args.scopes.now) c.args.items.now c.loop-item.item-index c.item-item.result c.loop-item.routines.items _ _ c.loop-item-test.true c.item-item.is (c.in_ok-routines.ensures (drop (c.loop-item.item-index + 1) c.args.items.now)) c.loop-item.invariant

pub returns : goal.returns
returns c = leads_to (functions_in c.args.scopes.now) c.args.items.now _ _ _ (functions_in_none c.args.scopes.now) c.loop-item-test.false c.loop-item.invariant
