use Rattle.std.proofs.lemmas.Result.{err_from_is_err_and}
use Rattle.vera_names.proofs.DataTypeSteps.{bits_no_range, bits_right}
use Rattle.vera_names.proofs.data_types.ranged.Goals as goal

pub returns-in_err-width : goal.returns-in_err-width
returns-in_err-width c =
    let p = err_from_is_err_and c.from_residual.result c.from_residual.ensures.1 in
    rw (p.1, p.2) (bits_no_range c.args.scopes.now c.args.bits.now _ c.in_err-width.ensures)

pub returns : goal.returns
returns c = bits_right c.args.scopes.now c.args.bits.now _ c.in_ok-width.ensures
