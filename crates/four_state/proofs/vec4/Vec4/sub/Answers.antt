use Rattle.std.proofs.Common.{sym, ◌∙◌, ◌<◌, ◌^◌, rules}
use Rattle.four_state.specs.Arithmetic.{difference_of}
use Rattle.four_state.proofs.Arithmetic.{difference_known, unknown_result}
use Rattle.four_state.proofs.vec4.Vec4.sub.Goals as goal

pub returns-in-Some : goal.returns-in-Some
returns-in-Some c =
    let fits : c.in-Some.b < 2 ^ 128 = search rules in
    difference_known _ _ c.in-Some.a c.in-Some.b _ _ fits (sym c.numbers.ensures ∙ c.in-Some.is) c.width.ensures.value c.width.ensures.high c.of_number.ensures

pub returns-in-None : goal.returns-in-None
unfolding difference_of
returns-in-None c =
    unknown_result _ _ _ _ _ (sym c.numbers.ensures ∙ c.in-None.is) c.width-in-None.ensures.value c.all_x.ensures
