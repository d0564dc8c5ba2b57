use Rattle.std.proofs.Common.{sym, ◌∙◌, ap, option_map}
use Rattle.four_state.specs.Numbers.{vector_of}
use Rattle.four_state.proofs.DecimalLiterals.{decimal_single, decimal_plain}
use Rattle.four_state.proofs.vec4.literals.decimal.Goals as goal

pub returns-in-None : goal.returns-in-None
returns-in-None c =
    c.of_some_number.ensures ∙ ap (λ o. option_map (vector_of c.args.width) o) c.decimal_number.ensures ∙ decimal_plain _ _ (sym c.only_digit.ensures ∙ c.in-None.is)

pub returns-in-Some : goal.returns-in-Some
returns-in-Some c = decimal_single _ _ _ _ (sym c.only_digit.ensures ∙ c.in-Some.is) c.single.ensures
