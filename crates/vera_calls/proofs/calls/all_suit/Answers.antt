use Rattle.vera_calls.proofs.Wants.{suit_stops, suit_goes, suit_past}
use Rattle.vera_calls.proofs.calls.all_suit.Goals as goal

pub returns-in-Some : goal.returns-in-Some
returns-in-Some c =
    suit_stops c.args.parents.now c.args.parameters.now c.args.arguments.now c.loop-at.at c.in-Some.parameter.now c.index-arguments-at.result c.type_of.result c.suits.result
    c.in-Some.ensures.lookup.3.0 c.in-Some.ensures.lookup.1 c.loop-at-test.true c.index-arguments-at.is c.type_of.ensures c.suits.ensures c.if-not-suits.true c.loop-at.invariant

pub returns-in-None : goal.returns-in-None
returns-in-None c = suit_past c.args.parents.now c.args.parameters.now c.args.arguments.now c.loop-at.at c.in-None.ensures.lookup.3 c.loop-at.invariant

pub loop-at-preserved : goal.loop-at-preserved
loop-at-preserved c =
    suit_goes c.args.parents.now c.args.parameters.now c.args.arguments.now c.loop-at.at c.in-Some.parameter.now c.index-arguments-at.result c.type_of.result c.suits.result
    c.in-Some.ensures.lookup.3.0 c.in-Some.ensures.lookup.1 c.loop-at-test.true c.index-arguments-at.is c.type_of.ensures c.suits.ensures c.if-not-suits.false c.loop-at.invariant
