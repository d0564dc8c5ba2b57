use Rattle.four_state.proofs.LiteralDigits.{follows}
use Rattle.four_state.proofs.vec4.literals.one_more.Goals as goal

pub returns-clause-some : goal.returns-clause-some
returns-clause-some c =
    follows c.args.places c.args.digit c.args.ones c.args.unknown c.in_ok-one.one c.in_ok-one.x c.requires.high c.in_ok-one.ensures.some c.if-ones-room-ne0.false c.if-unknown-room-ne0.false
