use Rattle.std.proofs.Common.{◌≡◌, ◌<◌, ◌^◌, drop}
use Rattle.four_state.specs.Literals.{plain_digits, decimal_number}
use Rattle.four_state.proofs.DecimalLiterals.{decimal_after}
use Rattle.four_state.proofs.vec4.literals.decimal_number.Given as goal

abbrev pub invariant-loop-digit : goal.invariant-loop-digit
invariant-loop-digit l = record {
  read : decimal_after l.number (plain_digits (drop l.digit-index l.digits)) ≡ decimal_number (plain_digits l.digits);
  small : l.number < 2 ^ 128;
}
