use Rattle.four_state.proofs.Bitwise.{xor_bits, xor_words}
use Rattle.four_state.proofs.vec4.Vec4.bit_xor.Goals as goal

pub invariant_of-result : goal.invariant_of-result
invariant_of-result c = xor_words _ _ _ _ _ _ _ _ c.self.invariant c.other.invariant c.self.view_is c.other.view_is c.requires

pub returns : goal.returns
returns c = xor_bits _ _ _ _ _ _ _ _ c.self.invariant c.other.invariant c.self.view_is c.other.view_is c.requires
