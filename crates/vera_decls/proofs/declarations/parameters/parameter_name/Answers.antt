use Rattle.std.proofs.Common.{◌∷◌, sym, ap, subst, ◌∙◌, arith}
use Rattle.std.proofs.lemmas.Result.{err_from_is_err_and}
use Rattle.vera_decls.proofs.WalkParts.{parameter_twice, parameter_late, parameter_over, parameter_stands}
use Rattle.typing_rules.specs.Scopes.{Name, is_among}
use Rattle.vera_names.specs.NameSets.{SameNames}
use Rattle.vera_decls.proofs.declarations.parameters.parameter_name.Goals as goal

pub returns-then-has_name : goal.returns-then-has_name
returns-then-has_name c = λ before same.
    parameter_twice c.args.count c.args.at before c.args.parameter.now _ (ap (λ (n : Name). is_among before n) (sym c.as_slice.ensures) ∙ sym (c.has_name.ensures before same) ∙ c.if-has_name.true) c.refused.ensures

pub returns-then-at-ge64 : goal.returns-then-at-ge64
returns-then-at-ge64 c = λ before same.
    parameter_late c.args.count c.args.at before c.args.parameter.now _ (ap (λ (n : Name). is_among before n) (sym c.as_slice.ensures) ∙ sym (c.has_name.ensures before same) ∙ c.if-has_name.false) (omega arith) c.refused-then-at-ge64.ensures

pub returns-in_err-count : goal.returns-in_err-count
returns-in_err-count c = λ before same.
    let p = err_from_is_err_and c.from_residual.result c.from_residual.ensures.1 in
    rw (p.1, p.2) (parameter_over c.args.count c.args.at before c.args.parameter.now _ (ap (λ (n : Name). is_among before n) (sym c.as_slice.ensures) ∙ sym (c.has_name.ensures before same) ∙ c.if-has_name.false) (omega arith)
    c.in_err-count.ensures.0 c.in_err-count.ensures.1)

pub returns : goal.returns
returns c = λ before same. (
  parameter_stands c.args.count c.args.at before c.args.parameter.now _ (ap (λ (n : Name). is_among before n) (sym c.as_slice.ensures) ∙ sym (c.has_name.ensures before same) ∙ c.if-has_name.false) (omega arith)
      c.in_ok-count.ensures.0 c.in_ok-count.ensures.1,
  omega (arith, c.in_ok-count.ensures.0, c.in_ok-count.ensures.1),
  subst (λ (n : Name). SameNames (n ∷ before) c.in_ok-names.names) c.as_slice-2.ensures (c.in_ok-names.ensures before same),
)
