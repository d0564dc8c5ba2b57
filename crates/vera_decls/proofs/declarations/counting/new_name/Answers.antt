use Rattle.std.proofs.Common.{sym, ◌∙◌, arith}
use Rattle.std.proofs.lemmas.Result.{err_from_is_err_and}
use Rattle.vera_decls.proofs.WalkParts.{name_twice, name_over, name_stands}
use Rattle.vera_decls.proofs.declarations.counting.new_name.Goals as goal

pub returns-then-has_name : goal.returns-then-has_name
returns-then-has_name c = λ before same. name_twice c.args.count c.args.line before c.args.name.now _ (sym (c.has_name.ensures before same) ∙ c.if-has_name.true) c.refused.ensures

pub returns-in_err-count : goal.returns-in_err-count
returns-in_err-count c = λ before same.
    let p = err_from_is_err_and c.from_residual.result c.from_residual.ensures.1 in
    rw (p.1, p.2) (name_over c.args.count c.args.line before c.args.name.now _ (sym (c.has_name.ensures before same) ∙ c.if-has_name.false) c.in_err-count.ensures.0 c.in_err-count.ensures.1)

pub returns : goal.returns
returns c = λ before same. (
  name_stands c.args.count c.args.line before c.args.name.now _ (sym (c.has_name.ensures before same) ∙ c.if-has_name.false) c.in_ok-count.ensures.0 c.in_ok-count.ensures.1,
  omega (arith, c.in_ok-count.ensures.0, c.in_ok-count.ensures.1),
  c.in_ok-names.ensures before same,
)
