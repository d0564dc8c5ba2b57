use Rattle.std.proofs.Common.{◌≡◌, ◌++◌, drop, option_to_list}
use Rattle.four_state.specs.Literals.{plain_digits}
use Rattle.vera_lex.proofs.literals.only_digit.Given as goal

abbrev pub invariant-loop-digit : goal.invariant-loop-digit
invariant-loop-digit l = plain_digits l.digits ≡ option_to_list l.only ++ plain_digits (drop l.digit-index l.digits)
