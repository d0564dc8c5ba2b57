use Rattle.std.proofs.Common.{Ok, sym, ap, ◌∙◌}
use Rattle.std.proofs.lemmas.Result.{err_from_is_err_and}
use Rattle.vera_names.proofs.Answering.{refused_as}
use Rattle.vera_decls.proofs.VariableSteps.{elements_refused, variable_twice, variable_wrong, variable_long, variable_right}
use Rattle.typing_rules.specs.Scopes.{Name, is_among}
use Rattle.vera_decls.proofs.variables.variable_type.Goals as goal

pub returns-in_err-count : goal.returns-in_err-count
returns-in_err-count c = λ before same.
    let p = err_from_is_err_and c.from_residual.result c.from_residual.ensures.1 in
    rw (p.1, p.2) (elements_refused c.args.scopes.now before c.args.of c.args.variable.now _ c.in_err-count.ensures)

pub returns-then-has_name : goal.returns-then-has_name
returns-then-has_name c = λ before same.
    refused_as _ _ _ c.refused.ensures
    (variable_twice c.args.scopes.now before c.args.of c.args.variable.now _ c.in_ok-count.ensures (ap (λ (n : Name). is_among before n) (sym c.as_slice.ensures) ∙ sym (c.has_name.ensures before same) ∙ c.if-has_name.true))

pub returns-then-is_wrong_array : goal.returns-then-is_wrong_array
returns-then-is_wrong_array c = λ before same.
    refused_as _ _ _ c.refused-then-is_wrong_array.ensures
    (variable_wrong c.args.scopes.now before c.args.of c.args.variable.now _ c.in_ok-count.ensures (ap (λ (n : Name). is_among before n) (sym c.as_slice.ensures) ∙ sym (c.has_name.ensures before same) ∙ c.if-has_name.false)
    (sym c.is_wrong_array.ensures ∙ c.if-is_wrong_array.true))

pub returns-then-is_wrong_length : goal.returns-then-is_wrong_length
returns-then-is_wrong_length c = λ before same.
    refused_as _ _ _ c.refused-then-is_wrong_length.ensures
    (variable_long c.args.scopes.now before c.args.of c.args.variable.now _ c.in_ok-count.ensures (ap (λ (n : Name). is_among before n) (sym c.as_slice.ensures) ∙ sym (c.has_name.ensures before same) ∙ c.if-has_name.false)
    (sym c.is_wrong_array.ensures ∙ c.if-is_wrong_array.false) (sym c.is_wrong_length.ensures ∙ c.if-is_wrong_length.true))

pub returns : goal.returns
returns c = λ before same.
    variable_right c.args.scopes.now before c.args.of c.args.variable.now _ c.in_ok-count.ensures (ap (λ (n : Name). is_among before n) (sym c.as_slice.ensures) ∙ sym (c.has_name.ensures before same) ∙ c.if-has_name.false)
    (sym c.is_wrong_array.ensures ∙ c.if-is_wrong_array.false) (sym c.is_wrong_length.ensures ∙ c.if-is_wrong_length.false)
    ∙ ap Ok (sym c.variable_of.ensures)
