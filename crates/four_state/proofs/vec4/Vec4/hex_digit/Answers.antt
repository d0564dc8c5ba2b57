use Rattle.std.proofs.Common.{arith, ◌∙◌}
use Rattle.std.proofs.lemmas.Bool.{ne_eqb, and_left, and_right}
use Rattle.four_state.proofs.Digits.{group_within, group_known, group_z, group_x}
use Rattle.four_state.proofs.vec4.Vec4.hex_digit.Goals as goal
use Rattle.four_state.proofs.vec4.Vec4.hex_digit.Goals.{else-ones-eq15-via-then-ones-eq15+else-unknown-eq15, else-ones-eq15-via-else-ones-eq15}

pub overflow_mul-ones : goal.overflow_mul-ones
overflow_mul-ones c = let h = group_within _ _ _ _ c.self.invariant c.self.view_is _ c.requires in omega arith

pub overflow_shr-ones : goal.overflow_shr-ones
overflow_shr-ones c = let h = group_within _ _ _ _ c.self.invariant c.self.view_is _ c.requires in omega arith

pub overflow_mul-unknown : goal.overflow_mul-unknown
overflow_mul-unknown c = let h = group_within _ _ _ _ c.self.invariant c.self.view_is _ c.requires in omega arith

pub overflow_shr-unknown : goal.overflow_shr-unknown
overflow_shr-unknown c = let h = group_within _ _ _ _ c.self.invariant c.self.view_is _ c.requires in omega arith

pub returns-then-unknown-eq0 : goal.returns-then-unknown-eq0
returns-then-unknown-eq0 c =
    c.hex_glyph.ensures ∙ group_known _ _ _ _ c.self.invariant c.self.view_is _ c.requires c.if-unknown-eq0.true

pub returns-then-unknown-eq15 : goal.returns-then-unknown-eq15
returns-then-unknown-eq15 c =
    group_z _ _ _ _ c.self.invariant c.self.view_is _ c.requires c.if-unknown-eq0.false c.if-ones-eq15.true c.if-unknown-eq15.true

pub returns-else-ones-eq15 : goal.returns-else-ones-eq15
returns-else-ones-eq15 c =
    group_x _ _ _ _ c.self.invariant c.self.view_is _ c.requires c.if-unknown-eq0.false
    (elim c.else-ones-eq15.branch [
      | else-ones-eq15-via-then-ones-eq15+else-unknown-eq15 w ↦ and_right _ _ (ne_eqb _ _ w.if-unknown-eq15.false)
      | else-ones-eq15-via-else-ones-eq15 w ↦ and_left _ _ (ne_eqb _ _ w.if-ones-eq15.false)
    ])
