use Rattle.std.proofs.Common.{refl}
use Rattle.std.proofs.lemmas.Result.{err_from_is_err_and}
use Rattle.vera_decls.proofs.ItemWalks.{first_stops, more_stop, more_lead, function_is, name_as}
use Rattle.vera_decls.proofs.NameLines.{within_limit}
use Rattle.vera_decls.proofs.WalkParts.{rules_stop, rules_stand, stops_first}
use Rattle.vera_decls.proofs.declarations.function.Goals as goal

pub returns-in_err-data_type : goal.returns-in_err-data_type
returns-in_err-data_type c = λ stand same.
    let p = err_from_is_err_and c.from_residual.result c.from_residual.ensures.1 in
    rw (p.1, p.2)
    (first_stops c.args.count _ _ _ _ (function_is c.args.scopes.now stand c.args.of.now c.args.of.now.name c.args.of.now.parameters refl refl) (rules_stop c.args.count c.args.of.now.line _ _ c.in_err-data_type.ensures))

pub returns-in_err-first : goal.returns-in_err-first
returns-in_err-first c = λ stand same.
    let p = err_from_is_err_and c.from_residual-in_err-first.result c.from_residual-in_err-first.ensures.1 in
    rw (p.1, p.2)
    (more_stop c.args.count _ _ _ c.args.count _ (function_is c.args.scopes.now stand c.args.of.now c.as_slice.result.now c.args.of.now.parameters c.as_slice.ensures refl) (rules_stand c.args.count c.args.of.now.line _ _ c.in_ok-data_type.ensures c.requires)
    (stops_first c.args.count _ _ _ (c.in_err-first.ensures stand same)))

pub parameters-requires : goal.parameters-requires
parameters-requires c = within_limit c.args.names c.in_ok-first.first.count _ _ c.in_ok-first.ensures

pub returns-in_err-count : goal.returns-in_err-count
returns-in_err-count c = λ stand same.
    let p = err_from_is_err_and c.from_residual-in_err-count.result c.from_residual-in_err-count.ensures.1 in
    let first = c.in_ok-first.ensures stand same in
    rw (p.1, p.2)
    (more_stop c.args.count _ _ _ c.args.count _ (function_is c.args.scopes.now stand c.args.of.now c.as_slice.result.now c.as_slice-2.result.now c.as_slice.ensures c.as_slice-2.ensures) (rules_stand c.args.count c.args.of.now.line _ _ c.in_ok-data_type.ensures c.requires)
    (more_stop c.args.count _ _ _ c.in_ok-first.first.count _ refl first.0 (stops_first c.in_ok-first.first.count _ _ _ c.in_err-count.ensures)))

pub function_body-requires : goal.function_body-requires
function_body-requires c = c.in_ok-count.ensures.1

pub returns-in_err-count-2 : goal.returns-in_err-count-2
returns-in_err-count-2 c = λ stand same.
    let p = err_from_is_err_and c.from_residual-in_err-count-2.result c.from_residual-in_err-count-2.ensures.1 in
    let first = c.in_ok-first.ensures stand same in
    rw (p.1, p.2)
    (more_stop c.args.count _ _ _ c.args.count _ (function_is c.args.scopes.now stand c.args.of.now c.as_slice.result.now c.as_slice-2.result.now c.as_slice.ensures c.as_slice-2.ensures) (rules_stand c.args.count c.args.of.now.line _ _ c.in_ok-data_type.ensures c.requires)
    (more_stop c.args.count _ _ _ c.in_ok-first.first.count _ refl first.0 (more_stop c.in_ok-first.first.count _ _ _ c.in_ok-count.count _ refl c.in_ok-count.ensures.0 c.in_err-count-2.ensures)))

pub returns : goal.returns
returns c = λ stand same.
    let first = c.in_ok-first.ensures stand same in (
      more_lead c.args.count _ _ _ c.args.count c.in_ok-count-2.count (function_is c.args.scopes.now stand c.args.of.now c.as_slice.result.now c.as_slice-2.result.now c.as_slice.ensures c.as_slice-2.ensures) (rules_stand c.args.count c.args.of.now.line _ _ c.in_ok-data_type.ensures c.requires)
          (more_lead c.args.count _ _ _ c.in_ok-first.first.count c.in_ok-count-2.count refl first.0 (more_lead c.in_ok-first.first.count _ _ _ c.in_ok-count.count c.in_ok-count-2.count refl c.in_ok-count.ensures.0 c.in_ok-count-2.ensures.0)),
      c.in_ok-count-2.ensures.1,
      name_as stand c.as_slice.result.now _ c.in_ok-first.first.names c.as_slice.ensures first.2,
    )
