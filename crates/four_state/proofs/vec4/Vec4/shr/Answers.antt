use Rattle.std.proofs.Common.{◌≡◌, ◌≤◌, ◌<◌, true, false, sym, ◌∙◌, arith}
use Rattle.four_state.proofs.Shifts.{width_is, shr_unknown, shr_within, shr_past_signed, shr_past_unsigned}
use Rattle.four_state.proofs.vec4.Vec4.shr.Goals as goal

pub returns-then-not-is_known : goal.returns-then-not-is_known
returns-then-not-is_known c =
    shr_unknown _ _ _ _ _ (sym c.is_known.ensures ∙ c.if-not-is_known.true) (width_is _ _ _ _ c.self.view_is) c.all_x.ensures

pub upper-requires : goal.upper-requires
upper-requires c = let e = width_is _ _ _ _ c.self.view_is in omega arith

pub upper-requires-then-signed : goal.upper-requires-then-signed
upper-requires-then-signed c = let e = width_is _ _ _ _ c.self.view_is in omega (arith, c.self.invariant.low)

pub returns-then-by-from : goal.returns-then-by-from
returns-then-by-from c =
    let within : c.number-by.result < c.self.inside.width = omega arith in
    shr_within _ _ _ _ c.number-by.result _ _ (sym c.is_known.ensures ∙ c.if-not-is_known.false) c.number-by.ensures (width_is _ _ _ _ c.self.view_is) within c.upper.ensures c.extend.ensures

pub returns-then-signed : goal.returns-then-signed
returns-then-signed c =
    let is_signed : c.args.signed ≡ true = c.if-signed.true in
    let past : c.self.inside.width ≤ c.number-by.result = omega arith in
    rw is_signed
    (shr_past_signed _ _ _ c.number-by.result _ _ (sym c.is_known.ensures ∙ c.if-not-is_known.false) c.number-by.ensures (width_is _ _ _ _ c.self.view_is) c.self.invariant.low past c.upper-then-signed.ensures c.extend-then-signed.ensures)

pub returns-else-signed : goal.returns-else-signed
returns-else-signed c =
    let unsigned : c.args.signed ≡ false = c.if-signed.false in
    let past : c.self.inside.width ≤ c.number-by.result = omega arith in
    rw unsigned
    (shr_past_unsigned _ _ _ c.number-by.result _ (sym c.is_known.ensures ∙ c.if-not-is_known.false) c.number-by.ensures (width_is _ _ _ _ c.self.view_is) past c.of_number.ensures)
