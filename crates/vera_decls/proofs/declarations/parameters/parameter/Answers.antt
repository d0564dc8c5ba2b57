use Rattle.std.proofs.lemmas.Result.{err_from_is_err_and}
use Rattle.vera_decls.proofs.WalkParts.{rules_stop, rules_stand, stops_first, walks_behind}
use Rattle.vera_decls.proofs.declarations.parameters.parameter.Goals as goal

pub returns-in_err-data_type : goal.returns-in_err-data_type
returns-in_err-data_type c = λ before same.
    let p = err_from_is_err_and c.from_residual.result c.from_residual.ensures.1 in
    rw (p.1, p.2) (stops_first c.args.count _ _ _ (rules_stop c.args.count c.args.parameter.now.line _ _ c.in_err-data_type.ensures))

pub returns : goal.returns
returns c = λ before same.
    walks_behind _ _ c.args.count _ _ c.args.count c.parameter_name.result (rules_stand c.args.count c.args.parameter.now.line _ _ c.in_ok-data_type.ensures c.requires) (c.parameter_name.ensures before same)
