use Rattle.std.proofs.Common.{◌+◌, drop, rules}
use Rattle.std.specs.Prelude.{Err}
use Rattle.typing_rules.specs.Answers.{Answers}
use Rattle.typing_rules.specs.Typing.{interfaces_in}
use Rattle.vera_types.proofs.OutlineSteps.{leads_on, leads_nowhere, leads_to, interfaces_in_none}
use Rattle.vera_types.proofs.outlines.interfaces_in.Goals as goal

pub returns-in_err-known : goal.returns-in_err-known
returns-in_err-known c =
    let h : Answers (interfaces_in c.args.scopes.now 0 c.args.items.now) (Err c.in_err-known.field-0.0) = leads_nowhere (interfaces_in c.args.scopes.now c.loop-item.known.count) c.args.items.now c.loop-item.item-index c.item-item.result c.loop-item.known.interfaces.items _ _ c.loop-item-test.true c.item-item.is (c.in_err-known.ensures (drop (c.loop-item.item-index + 1) c.args.items.now)) c.loop-item.invariant in
    search rules

pub loop-item-preserved : goal.loop-item-preserved
loop-item-preserved c =
    leads_on (interfaces_in c.args.scopes.now c.loop-item.known.count) (interfaces_in c.args.scopes.now c.in_ok-known.known.count) c.args.items.now c.loop-item.item-index c.item-item.result c.loop-item.known.interfaces.items _ _ c.loop-item-test.true c.item-item.is (c.in_ok-known.ensures (drop (c.loop-item.item-index + 1) c.args.items.now)) c.loop-item.invariant

pub returns : goal.returns
returns c = leads_to (interfaces_in c.args.scopes.now c.loop-item.known.count) c.args.items.now _ _ _ (interfaces_in_none c.args.scopes.now _) c.loop-item-test.false c.loop-item.invariant
