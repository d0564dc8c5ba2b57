use Rattle.std.proofs.Common.{◌≡◌, arith, sym, ◌∙◌, rules, true, false, FitsSigned}
use Rattle.std.specs.Int.{w128}
use Rattle.four_state.proofs.Arithmetic.{signed_divisor, signed_quotient, unsigned_quotient, no_quotient}
use Rattle.four_state.proofs.vec4.Vec4.div.Goals as goal

pub returns-then-not-can_divide : goal.returns-then-not-can_divide
returns-then-not-can_divide c =
    no_quotient _ _ _ _ c.width-width.ensures.value _ (sym c.can_divide.ensures ∙ c.if-not-can_divide.true) c.all_x.ensures

pub wrapping_div-quotient-requires : goal.wrapping_div-quotient-requires
wrapping_div-quotient-requires c =
    let fits : FitsSigned w128 c.signed_number-then-signed.result = search rules in
    signed_divisor c.args.self.now c.args.other.now _ (sym c.can_divide.ensures ∙ c.if-not-can_divide.false) c.signed_number-then-signed.ensures fits (omega arith)

pub returns-then-signed : goal.returns-then-signed
returns-then-signed c =
    let is_signed : c.args.signed ≡ true = c.if-signed.true in
    let first : FitsSigned w128 c.signed_number.result = search rules in
    let second : FitsSigned w128 c.signed_number-then-signed.result = search rules in
    rw is_signed
    (signed_quotient c.args.self.now c.args.other.now _ _ _ _ _ (sym c.can_divide.ensures ∙ c.if-not-can_divide.false) first second c.signed_number.ensures c.signed_number-then-signed.ensures c.width-width.ensures.value c.width-width.ensures.high c.of_number.ensures _ c.wrapping_div-quotient.ensures c.cast_unsigned.ensures)

pub returns-else-signed : goal.returns-else-signed
returns-else-signed c =
    let unsigned : c.args.signed ≡ false = c.if-signed.false in
    rw unsigned
    (unsigned_quotient _ _ _ _ c.width-width.ensures.value _ _ (sym c.can_divide.ensures ∙ c.if-not-can_divide.false) c.number.ensures c.number-else-signed.ensures c.of_number-else-signed.ensures)
