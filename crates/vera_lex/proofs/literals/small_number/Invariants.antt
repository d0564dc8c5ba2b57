use Rattle.std.proofs.Common.{◌≡◌, ◌<◌, drop, true}
use Rattle.std.specs.Str.Parse.{digits_value, digits_value_after}
use Rattle.four_state.specs.Literals.{plain_digits}
use Rattle.vera_lex.specs.Bytes.{all, in_decimal}
use Rattle.vera_lex.proofs.literals.small_number.Given as goal

abbrev pub invariant-loop-digit : goal.invariant-loop-digit
invariant-loop-digit l = record {
  read : digits_value_after 10 l.value (plain_digits (drop l.digit-index l.digits)) ≡ digits_value 10 (plain_digits l.digits);
  small : l.value < 4294967296;
  decimal : all in_decimal (drop l.digit-index l.digits) ≡ true;
}
