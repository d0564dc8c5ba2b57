use Rattle.std.proofs.Common.{sym, ◌∙◌}
use Rattle.four_state.proofs.LiteralDigits.{radix_is, radix_low, radix_high, x_digit, z_digit, known_digit, no_digit}
use Rattle.four_state.proofs.vec4.literals.digit_words.Goals as goal

pub to_digit-requires-clause-lower_bound : goal.to_digit-requires-clause-lower_bound
to_digit-requires-clause-lower_bound c = rw (radix_is _ c.requires.high) (radix_low _ c.requires.low)

pub to_digit-requires-clause-upper_bound : goal.to_digit-requires-clause-upper_bound
to_digit-requires-clause-upper_bound c = rw (radix_is _ c.requires.high) (radix_high _ c.requires.high)

pub returns-then-is_x-clause-some : goal.returns-then-is_x-clause-some
returns-then-is_x-clause-some c = x_digit _ _ _ c.mask-all.ensures (sym c.is_x.ensures ∙ c.if-is_x.true)

pub returns-then-is_z-clause-some : goal.returns-then-is_z-clause-some
returns-then-is_z-clause-some c =
    z_digit _ _ _ c.mask-all.ensures (sym c.is_x.ensures ∙ c.if-is_x.false) (sym c.is_z.ensures ∙ c.if-is_z.true)

pub returns-in_err-value-clause-none : goal.returns-in_err-value-clause-none
returns-in_err-value-clause-none c =
    let past = rw (radix_is c.args.places c.requires.high, c.from.ensures) at c.in_err-value.ensures.value in
    let none = no_digit c.args.places c.args.digit (sym c.is_x.ensures ∙ c.if-is_x.false) (sym c.is_z.ensures ∙ c.if-is_z.false) past in
    rw c.from_residual.ensures none

pub returns-clause-some : goal.returns-clause-some
returns-clause-some c =
    let found = rw (radix_is c.args.places c.requires.high, c.from.ensures) at c.in_ok-value.ensures.value in
    known_digit c.args.places c.args.digit c.from-2.result (sym c.is_x.ensures ∙ c.if-is_x.false) (sym c.is_z.ensures ∙ c.if-is_z.false) found.0 (c.from-2.ensures ∙ found.1)
