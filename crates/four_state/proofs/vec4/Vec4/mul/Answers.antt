use Rattle.std.proofs.Common.{sym, ◌∙◌}
use Rattle.four_state.specs.Arithmetic.{product_of}
use Rattle.four_state.proofs.Arithmetic.{product_known, unknown_result}
use Rattle.four_state.proofs.vec4.Vec4.mul.Goals as goal

pub returns-in-Some : goal.returns-in-Some
returns-in-Some c =
    product_known _ _ c.in-Some.a c.in-Some.b _ _ (sym c.numbers.ensures ∙ c.in-Some.is) c.width.ensures.value c.width.ensures.high c.of_number.ensures

pub returns-in-None : goal.returns-in-None
unfolding product_of
returns-in-None c =
    unknown_result _ _ _ _ _ (sym c.numbers.ensures ∙ c.in-None.is) c.width-in-None.ensures.value c.all_x.ensures
