use Rattle.four_state.proofs.Bitwise.{not_bits}
use Rattle.four_state.proofs.vec4.Vec4.bit_not.Goals as goal

pub returns : goal.returns
returns c = not_bits _ _ _ _ c.self.invariant c.self.view_is _ c.mask.ensures
