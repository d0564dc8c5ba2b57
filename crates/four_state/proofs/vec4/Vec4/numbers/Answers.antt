use Rattle.four_state.specs.Numbers.{numbers_of}
use Rattle.four_state.proofs.vec4.Vec4.numbers.Goals as goal

pub returns-then-both_known : goal.returns-then-both_known
unfolding numbers_of
returns-then-both_known c = rw (c.number.ensures, c.number-then-both_known.ensures, ← c.both_known.ensures, c.if-both_known.true)

pub returns-else-both_known : goal.returns-else-both_known
unfolding numbers_of
returns-else-both_known c = rw (← c.both_known.ensures, c.if-both_known.false)
