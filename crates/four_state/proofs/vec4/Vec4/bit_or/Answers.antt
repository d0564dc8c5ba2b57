use Rattle.four_state.proofs.Bitwise.{or_bits, or_words}
use Rattle.four_state.proofs.vec4.Vec4.bit_or.Goals as goal

pub invariant_of-result : goal.invariant_of-result
invariant_of-result c = or_words _ _ _ _ _ _ _ _ c.self.invariant c.other.invariant c.self.view_is c.other.view_is c.requires

pub returns : goal.returns
returns c = or_bits _ _ _ _ _ _ _ _ c.self.invariant c.other.invariant c.self.view_is c.other.view_is c.requires
