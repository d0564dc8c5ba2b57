use Rattle.four_state.proofs.Reductions.{and_zero, and_one, and_x}
use Rattle.four_state.proofs.vec4.Vec4.every_bit.Goals as goal

pub returns-then-self-mask : goal.returns-then-self-mask
returns-then-self-mask c = and_zero _ _ _ _ c.self.invariant c.self.view_is _ c.mask.ensures c.if-self-mask.true

pub returns-then-self-eq0 : goal.returns-then-self-eq0
returns-then-self-eq0 c = and_one _ _ _ _ c.self.invariant c.self.view_is _ c.mask.ensures c.if-self-mask.false c.if-self-eq0.true

pub returns-else-self-eq0 : goal.returns-else-self-eq0
returns-else-self-eq0 c = and_x _ _ _ _ c.self.invariant c.self.view_is _ c.mask.ensures c.if-self-mask.false c.if-self-eq0.false
