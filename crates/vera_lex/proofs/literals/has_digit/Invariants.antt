use Rattle.std.proofs.Common.{◌≡◌, drop}
use Rattle.four_state.specs.Literals.{plain_digits}
use Rattle.vera_lex.proofs.literals.has_digit.Given as goal

abbrev pub invariant-loop-digit : goal.invariant-loop-digit
invariant-loop-digit l = plain_digits (drop l.digit-index l.digits) ≡ plain_digits l.digits
