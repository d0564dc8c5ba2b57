use Rattle.std.proofs.Common.{◌≡◌, drop}
use Rattle.four_state.specs.Literals.{plain_digits}
use Rattle.vera_lex.specs.Bytes.{all}
use Rattle.vera_lex.specs.Literals.{is_digit_of}
use Rattle.vera_lex.proofs.literals.are_of_base.Given as goal

abbrev pub invariant-loop-digit : goal.invariant-loop-digit
invariant-loop-digit l = all (is_digit_of l.base) (plain_digits (drop l.digit-index l.digits)) ≡ all (is_digit_of l.base) (plain_digits l.digits)
