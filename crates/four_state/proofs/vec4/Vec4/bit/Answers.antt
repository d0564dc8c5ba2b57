use Rattle.std.proofs.Common.{arith}
use Rattle.four_state.proofs.Shifts.{upper_within}
use Rattle.four_state.proofs.Digits.{bit_read}
use Rattle.four_state.proofs.vec4.Vec4.bit.Goals as goal

pub overflow_shr-one : goal.overflow_shr-one
overflow_shr-one c = let h = upper_within _ _ _ _ c.self.invariant c.self.view_is _ c.requires in omega arith

pub overflow_shr-unknown : goal.overflow_shr-unknown
overflow_shr-unknown c = let h = upper_within _ _ _ _ c.self.invariant c.self.view_is _ c.requires in omega arith

pub returns-in-false-false : goal.returns-in-false-false
returns-in-false-false c = bit_read _ _ _ _ c.self.invariant c.self.view_is _ c.requires _ _ c.in-false-false.is-0 c.in-false-false.is-1

pub returns-in-false-true : goal.returns-in-false-true
returns-in-false-true c = bit_read _ _ _ _ c.self.invariant c.self.view_is _ c.requires _ _ c.in-false-true.is-0 c.in-false-true.is-1

pub returns-in-true-false : goal.returns-in-true-false
returns-in-true-false c = bit_read _ _ _ _ c.self.invariant c.self.view_is _ c.requires _ _ c.in-true-false.is-0 c.in-true-false.is-1

pub returns-in-true-true : goal.returns-in-true-true
returns-in-true-true c = bit_read _ _ _ _ c.self.invariant c.self.view_is _ c.requires _ _ c.in-true-true.is-0 c.in-true-true.is-1
