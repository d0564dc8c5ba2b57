use Rattle.vera_calls.specs.Wanting.{wants_told}
use Rattle.vera_calls.proofs.Wants.{settable_stops, settable_goes}
use Rattle.vera_calls.proofs.calls.all_settable.Goals as goal

pub returns-then-not-is_settable : goal.returns-then-not-is_settable
returns-then-not-is_settable c =
    settable_stops (wants_told c.args.wanted.now) c.args.arguments.now c.loop-at.at c.index-arguments-at.result c.at.result c.is_settable.result
    c.loop-at-test.true c.index-arguments-at.is c.at.ensures c.is_settable.ensures c.if-not-is_settable.true c.loop-at.invariant

pub loop-at-preserved : goal.loop-at-preserved
loop-at-preserved c =
    settable_goes (wants_told c.args.wanted.now) c.args.arguments.now c.loop-at.at c.index-arguments-at.result c.at.result c.is_settable.result
    c.loop-at-test.true c.index-arguments-at.is c.at.ensures c.is_settable.ensures c.if-not-is_settable.false c.loop-at.invariant
