use Rattle.std.proofs.lemmas.Result.{err_from_is_err_and}
use Rattle.vera_decls.proofs.ItemWalks.{first_stops, more_stop, more_lead, program_is, name_as}
use Rattle.vera_decls.proofs.NameLines.{within_limit}
use Rattle.vera_decls.proofs.declarations.program.Goals as goal

pub returns-in_err-first : goal.returns-in_err-first
returns-in_err-first c = λ stand same.
    let p = err_from_is_err_and c.from_residual.result c.from_residual.ensures.1 in
    rw (p.1, p.2) (first_stops c.args.count _ _ _ _ (program_is c.args.scopes.now stand c.args.of.now c.as_slice.result.now c.as_slice.ensures) (c.in_err-first.ensures stand same))

pub block-requires : goal.block-requires
block-requires c = within_limit c.args.names c.in_ok-first.first.count _ _ c.in_ok-first.ensures

pub returns-in_err-count : goal.returns-in_err-count
returns-in_err-count c = λ stand same.
    let p = err_from_is_err_and c.from_residual-in_err-count.result c.from_residual-in_err-count.ensures.1 in
    let first = c.in_ok-first.ensures stand same in
    rw (p.1, p.2) (more_stop c.args.count _ _ _ c.in_ok-first.first.count _ (program_is c.args.scopes.now stand c.args.of.now c.as_slice.result.now c.as_slice.ensures) first.0 c.in_err-count.ensures)

pub returns : goal.returns
returns c = λ stand same.
    let first = c.in_ok-first.ensures stand same in (
      more_lead c.args.count _ _ _ c.in_ok-first.first.count c.in_ok-count.count (program_is c.args.scopes.now stand c.args.of.now c.as_slice.result.now c.as_slice.ensures) first.0 c.in_ok-count.ensures.0,
      c.in_ok-count.ensures.1,
      name_as stand c.as_slice.result.now _ c.in_ok-first.first.names c.as_slice.ensures first.2,
    )
