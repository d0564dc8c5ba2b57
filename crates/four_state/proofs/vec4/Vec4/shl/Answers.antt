use Rattle.std.proofs.Common.{◌≤◌, ◌<◌, sym, ◌∙◌, arith}
use Rattle.four_state.proofs.Shifts.{width_is, shl_unknown, shl_past, shl_within}
use Rattle.four_state.proofs.vec4.Vec4.shl.Goals as goal

pub returns-then-not-is_known : goal.returns-then-not-is_known
returns-then-not-is_known c =
    shl_unknown _ _ _ _ (sym c.is_known.ensures ∙ c.if-not-is_known.true) (width_is _ _ _ _ c.self.view_is) c.all_x.ensures

pub returns-then-by-from : goal.returns-then-by-from
returns-then-by-from c =
    let past : c.self.inside.width ≤ c.number-by.result = omega arith in
    shl_past _ _ _ c.number-by.result _ (sym c.is_known.ensures ∙ c.if-not-is_known.false) c.number-by.ensures (width_is _ _ _ _ c.self.view_is) past c.of_number.ensures

pub returns : goal.returns
returns c =
    let within : c.number-by.result < c.self.inside.width = omega arith in
    shl_within _ _ _ _ _ _ c.self.invariant c.self.view_is (sym c.is_known.ensures ∙ c.if-not-is_known.false) c.number-by.ensures within _ _ c.mask.ensures c.mask-2.ensures
