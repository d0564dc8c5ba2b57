use Rattle.std.proofs.Common.{sym, ◌∙◌, ◌<◌, ◌^◌, rules}
use Rattle.four_state.proofs.Arithmetic.{negated_known, negated_unknown}
use Rattle.four_state.proofs.vec4.Vec4.neg.Goals as goal

pub returns-then-is_known : goal.returns-then-is_known
returns-then-is_known c =
    let fits : c.number.result < 2 ^ 128 = search rules in
    negated_known _ c.number.result _ _ fits (sym c.is_known.ensures ∙ c.if-is_known.true) c.number.ensures c.width.ensures.value c.width.ensures.high c.of_number.ensures

pub returns-else-is_known : goal.returns-else-is_known
returns-else-is_known c =
    negated_unknown _ _ _ (sym c.is_known.ensures ∙ c.if-is_known.false) c.width-else-is_known.ensures.value c.all_x.ensures
