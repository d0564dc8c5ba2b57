use Rattle.four_state.proofs.Reductions.{xor_known, xor_unknown}
use Rattle.four_state.proofs.vec4.Vec4.odd_ones.Goals as goal

pub returns-then-self-eq0 : goal.returns-then-self-eq0
returns-then-self-eq0 c = xor_known _ _ _ _ c.self.invariant c.self.view_is c.if-self-eq0.true

pub returns-else-self-eq0 : goal.returns-else-self-eq0
returns-else-self-eq0 c = xor_unknown _ _ _ _ c.self.invariant c.self.view_is c.if-self-eq0.false
