use Rattle.std.proofs.Common.{arith, refl}
use Rattle.four_state.proofs.Shifts.{joined_width, joined_words, joined_bits}
use Rattle.four_state.proofs.vec4.Vec4.concat.Goals as goal

pub returns-then-self-low-clause-fits : goal.returns-then-self-low-clause-fits
returns-then-self-low-clause-fits c =
    let e = joined_width _ _ _ _ _ _ _ _ c.self.invariant c.low.invariant c.self.view_is c.low.view_is in
    (λ t. cc, λ h. absurd (omega arith))

pub returns-clause-fits : goal.returns-clause-fits
returns-clause-fits c =
    let e = joined_width _ _ _ _ _ _ _ _ c.self.invariant c.low.invariant c.self.view_is c.low.view_is in
    (λ t. omega arith, λ h. refl)

pub invariant_of-result : goal.invariant_of-result
invariant_of-result c = joined_words _ _ _ _ _ _ _ _ c.self.invariant c.low.invariant c.self.view_is c.low.view_is c.if-self-low.false

pub returns-clause-value : goal.returns-clause-value
returns-clause-value c = joined_bits _ _ _ _ _ _ _ _ c.self.invariant c.low.invariant c.self.view_is c.low.view_is c.if-self-low.false
