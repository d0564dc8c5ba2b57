use Rattle.std.proofs.Common.{arith}
use Rattle.four_state.proofs.Shifts.{upper_within, upper_words, upper_bits}
use Rattle.four_state.proofs.vec4.Vec4.upper.Goals as goal

pub overflow_sub-result : goal.overflow_sub-result
overflow_sub-result c = let h = upper_within _ _ _ _ c.self.invariant c.self.view_is _ c.requires in omega arith

pub overflow_shr-result : goal.overflow_shr-result
overflow_shr-result c = let h = upper_within _ _ _ _ c.self.invariant c.self.view_is _ c.requires in omega arith

pub overflow_shr-result-2 : goal.overflow_shr-result-2
overflow_shr-result-2 c = let h = upper_within _ _ _ _ c.self.invariant c.self.view_is _ c.requires in omega arith

pub invariant_of-result : goal.invariant_of-result
invariant_of-result c = upper_words _ _ _ _ c.self.invariant c.self.view_is _ c.requires

pub returns : goal.returns
returns c = upper_bits _ _ _ _ c.self.invariant c.self.view_is _ c.requires
