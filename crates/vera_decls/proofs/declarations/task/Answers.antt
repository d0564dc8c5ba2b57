use Rattle.std.proofs.Common.{refl}
use Rattle.std.proofs.lemmas.Result.{err_from_is_err_and}
use Rattle.vera_decls.proofs.ItemWalks.{first_stops, more_stop, more_lead, task_is, name_as}
use Rattle.vera_decls.proofs.NameLines.{within_limit}
use Rattle.vera_decls.proofs.WalkParts.{stops_first}
use Rattle.vera_decls.proofs.declarations.task.Goals as goal

pub returns-in_err-first : goal.returns-in_err-first
returns-in_err-first c = λ stand same.
    let p = err_from_is_err_and c.from_residual.result c.from_residual.ensures.1 in
    rw (p.1, p.2)
    (first_stops c.args.count _ _ _ _ (task_is c.args.scopes.now stand c.args.of.now c.task_name.result.now c.args.of.now.parameters c.args.of.now.parameters c.task_name.ensures refl refl) (c.in_err-first.ensures stand same))

pub parameters-requires : goal.parameters-requires
parameters-requires c = within_limit c.args.names c.in_ok-first.first.count _ _ c.in_ok-first.ensures

pub returns-in_err-count : goal.returns-in_err-count
returns-in_err-count c = λ stand same.
    let p = err_from_is_err_and c.from_residual-in_err-count.result c.from_residual-in_err-count.ensures.1 in
    let first = c.in_ok-first.ensures stand same in
    rw (p.1, p.2)
    (more_stop c.args.count _ _ _ c.in_ok-first.first.count _ (task_is c.args.scopes.now stand c.args.of.now c.task_name.result.now c.as_slice.result.now c.args.of.now.parameters c.task_name.ensures c.as_slice.ensures refl) first.0
    (stops_first c.in_ok-first.first.count _ _ _ c.in_err-count.ensures))

pub body_behind-requires : goal.body_behind-requires
body_behind-requires c = c.in_ok-count.ensures.1

pub returns-in_err-count-2 : goal.returns-in_err-count-2
returns-in_err-count-2 c = λ stand same.
    let p = err_from_is_err_and c.from_residual-in_err-count-2.result c.from_residual-in_err-count-2.ensures.1 in
    let first = c.in_ok-first.ensures stand same in
    rw (p.1, p.2)
    (more_stop c.args.count _ _ _ c.in_ok-first.first.count _ (task_is c.args.scopes.now stand c.args.of.now c.task_name.result.now c.as_slice.result.now c.as_slice-2.result.now c.task_name.ensures c.as_slice.ensures c.as_slice-2.ensures) first.0
    (more_stop c.in_ok-first.first.count _ _ _ c.in_ok-count.count _ refl c.in_ok-count.ensures.0 c.in_err-count-2.ensures))

pub returns : goal.returns
returns c = λ stand same.
    let first = c.in_ok-first.ensures stand same in (
      more_lead c.args.count _ _ _ c.in_ok-first.first.count c.in_ok-count-2.count (task_is c.args.scopes.now stand c.args.of.now c.task_name.result.now c.as_slice.result.now c.as_slice-2.result.now c.task_name.ensures c.as_slice.ensures c.as_slice-2.ensures) first.0
          (more_lead c.in_ok-first.first.count _ _ _ c.in_ok-count.count c.in_ok-count-2.count refl c.in_ok-count.ensures.0 c.in_ok-count-2.ensures.0),
      c.in_ok-count-2.ensures.1,
      name_as stand c.task_name.result.now _ c.in_ok-first.first.names c.task_name.ensures first.2,
    )
