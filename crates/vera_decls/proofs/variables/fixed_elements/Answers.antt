use Rattle.std.proofs.lemmas.Result.{err_from_is_err_and}
use Rattle.vera_names.proofs.DataTypeSteps.{elements_wrong, elements_right}
use Rattle.vera_decls.proofs.variables.fixed_elements.Goals as goal

pub returns-in_err-count : goal.returns-in_err-count
returns-in_err-count c = λ line.
    let p = err_from_is_err_and c.from_residual.result c.from_residual.ensures.1 in
    rw (p.1, p.2) (elements_wrong c.args.scopes.now line c.args.count.now _ c.in_err-count.ensures)

pub returns : goal.returns
returns c = λ line. elements_right c.args.scopes.now line c.args.count.now _ c.in_ok-count.ensures
