use Rattle.std.proofs.Common.{ℤ, Option, sym, ap, ◌∙◌}
use Rattle.typing_rules.specs.Constants.{in_range}
use Rattle.vera_names.proofs.NumberViews.{refused_names, value_found, no_value_told}
use Rattle.vera_names.proofs.constants.constant.Goals as goal

pub returns-in-Err : goal.returns-in-Err
returns-in-Err c = refused_names c.args.scopes.now c.args.expr.now c.in-Err.refusal (sym c.in-Err.is ∙ c.names_known.ensures)

pub returns-in-Some : goal.returns-in-Some
returns-in-Some c =
    value_found c.args.scopes.now c.args.expr.now c.in_default.field-0 c.in-Some.value (sym c.in_default.is ∙ c.names_known.ensures)
    (sym c.in-Some.is ∙ c.in_range.ensures ∙ ap (λ (n : Option ℤ). in_range n) c.in_ok-number.ensures)

pub returns : goal.returns
returns c =
    no_value_told c.args.scopes.now c.args.expr.now c.in_default.field-0 c.line.result c.refused.result (sym c.in_default.is ∙ c.names_known.ensures)
    (sym c.in-None.is ∙ c.in_range.ensures ∙ ap (λ (n : Option ℤ). in_range n) c.in_ok-number.ensures) c.line.ensures c.refused.ensures
