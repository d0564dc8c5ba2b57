use Rattle.std.proofs.lemmas.Bool.{ne_eqb, eq-eqb}
use Rattle.std.proofs.lemmas.Result.{err_from_is_err_and}
use Rattle.vera_names.proofs.DataTypeSteps.{range_no_high, range_no_low, range_above, range_wide, range_right}
use Rattle.vera_names.proofs.Answering.{refused_as}
use Rattle.vera_names.proofs.data_types.range.Goals as goal

pub returns-in_err-high : goal.returns-in_err-high
returns-in_err-high c =
    let p = err_from_is_err_and c.from_residual.result c.from_residual.ensures.1 in
    rw (p.1, p.2) (range_no_high c.args.scopes.now c.args.range.now _ c.in_err-high.ensures)

pub returns-in_err-low : goal.returns-in_err-low
returns-in_err-low c =
    let p = err_from_is_err_and c.from_residual-in_err-low.result c.from_residual-in_err-low.ensures.1 in
    rw (p.1, p.2) (range_no_low c.args.scopes.now c.args.range.now _ _ c.in_ok-high.ensures c.in_err-low.ensures)

pub returns-then-low-ne0 : goal.returns-then-low-ne0
returns-then-low-ne0 c = refused_as _ _ _ c.refused.ensures (range_above c.args.scopes.now c.args.range.now _ _ c.in_ok-high.ensures c.in_ok-low.ensures (ne_eqb _ _ c.if-low-ne0.true))

pub returns-in-Some : goal.returns-in-Some
returns-in-Some c = range_right c.args.scopes.now c.args.range.now _ _ _ c.in_ok-high.ensures c.in_ok-low.ensures (eq-eqb _ _ c.if-low-ne0.false) c.in-Some.ensures

pub returns-in-None : goal.returns-in-None
returns-in-None c = refused_as _ _ _ c.refused-in-None.ensures (range_wide c.args.scopes.now c.args.range.now _ _ c.in_ok-high.ensures c.in_ok-low.ensures (eq-eqb _ _ c.if-low-ne0.false) c.in-None.ensures)
