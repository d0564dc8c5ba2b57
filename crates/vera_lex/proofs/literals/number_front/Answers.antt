use Rattle.std.proofs.Common.{◌∙◌, take}
use Rattle.vera_lex.specs.Bytes.{in_decimal, run}
use Rattle.vera_lex.proofs.Digits.{run_formed, decimal_right, first_digit}
use Rattle.vera_lex.proofs.literals.number_front.Goals as goal

pub based_front-requires-clause-width : goal.based_front-requires-clause-width
based_front-requires-clause-width c = rw c.decimal_length-count.ensures.value (run_formed in_decimal c.args.text.now)

pub decimal_front-requires-clause-digits : goal.decimal_front-requires-clause-digits
decimal_front-requires-clause-digits c = rw c.decimal_length-count.ensures.value (run_formed in_decimal c.args.text.now)

pub decimal_front-requires-clause-right : goal.decimal_front-requires-clause-right
decimal_front-requires-clause-right c =
    let text = c.args.text.now in
    rw c.decimal_length-count.ensures.value
    (decimal_right (take (run in_decimal text) text) (run_formed in_decimal text) (first_digit text c.requires.first (λ none. c.if-count-eq0.false (c.decimal_length-count.ensures.value ∙ none))))
