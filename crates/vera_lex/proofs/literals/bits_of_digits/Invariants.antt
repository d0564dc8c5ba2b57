use Rattle.std.proofs.Common.{◌≡◌, ◌≤◌, ◌*◌, drop}
use Rattle.four_state.specs.Literals.{plain_digits}
use Rattle.vera_lex.specs.Literals.{bits_of_digits}
use Rattle.vera_lex.proofs.Digits.{bits_from}
use Rattle.vera_lex.proofs.literals.bits_of_digits.Given as goal

abbrev pub invariant-loop-digit : goal.invariant-loop-digit
invariant-loop-digit l = record {
  read : bits_from l.bits l.places (plain_digits (drop l.digit-index l.digits)) ≡ bits_of_digits l.places (plain_digits l.digits);
  small : l.bits ≤ 4 * l.digit-index;
}
