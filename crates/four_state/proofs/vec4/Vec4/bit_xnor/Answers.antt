use Rattle.four_state.proofs.Bitwise.{xnor_bits, xnor_words}
use Rattle.four_state.proofs.vec4.Vec4.bit_xnor.Goals as goal

pub invariant_of-result : goal.invariant_of-result
invariant_of-result c = xnor_words _ _ _ _ _ _ _ _ c.self.invariant c.other.invariant c.self.view_is c.other.view_is c.requires _ c.mask.ensures

pub returns : goal.returns
returns c = xnor_bits _ _ _ _ _ _ _ _ c.self.invariant c.other.invariant c.self.view_is c.other.view_is c.requires _ c.mask.ensures
