use Rattle.typing_rules.specs.Signatures.{wants_in}
use Rattle.vera_calls.proofs.Wants.{meet_stops, meet_goes}
use Rattle.vera_calls.proofs.calls.all_meet.Goals as goal

pub returns-then-not-meets : goal.returns-then-not-meets
returns-then-not-meets c =
    meet_stops (wants_in c.args.call c.args.mode) c.args.arguments.now c.loop-at.at c.index-arguments-at.result c.wanted_in.result c.meets.result
    c.loop-at-test.true c.index-arguments-at.is c.wanted_in.ensures c.meets.ensures c.if-not-meets.true c.loop-at.invariant

pub loop-at-preserved : goal.loop-at-preserved
loop-at-preserved c =
    meet_goes (wants_in c.args.call c.args.mode) c.args.arguments.now c.loop-at.at c.index-arguments-at.result c.wanted_in.result c.meets.result
    c.loop-at-test.true c.index-arguments-at.is c.wanted_in.ensures c.meets.ensures c.if-not-meets.false c.loop-at.invariant
