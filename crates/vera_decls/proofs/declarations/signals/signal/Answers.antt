use Rattle.std.proofs.lemmas.Result.{err_from_is_err_and}
use Rattle.vera_decls.proofs.WalkParts.{rules_stop, rules_stand, stops_first, walks_behind}
use Rattle.vera_decls.proofs.declarations.signals.signal.Goals as goal

pub returns-in_err-signal_width : goal.returns-in_err-signal_width
returns-in_err-signal_width c = λ before names within outs same.
    let p = err_from_is_err_and c.from_residual.result c.from_residual.ensures.1 in
    rw (p.1, p.2) (stops_first c.args.stand.count _ _ _ (rules_stop c.args.stand.count c.args.signal.now.line _ _ c.in_err-signal_width.ensures))

pub returns : goal.returns
returns c = λ before names within outs same.
    walks_behind _ _ c.args.stand.count _ _ c.args.stand.count c.signal_name.result (rules_stand c.args.stand.count c.args.signal.now.line _ _ c.in_ok-signal_width.ensures within) (c.signal_name.ensures before names outs same)
