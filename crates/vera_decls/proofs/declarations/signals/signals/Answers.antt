use Rattle.std.proofs.Common.{[], List, subst, arith}
use Rattle.std.proofs.lemmas.Result.{err_from_is_err_and}
use Rattle.vera_ast.specs.declared.tree.interfaces.Signal.{Signal}
use Rattle.vera_decls.proofs.Families.{put_signal, signals_left, one_signal, signals_first, signals_none, signals_then}
use Rattle.vera_decls.proofs.Going.{goes_start, goes_on, goes_stops, goes_end}
use Rattle.vera_names.proofs.NameSets.{names_of_none}
use Rattle.vera_decls.specs.Walks.{OutputsStand}
use Rattle.vera_names.specs.NameSets.{SameNames}
use Rattle.vera_decls.proofs.declarations.signals.signals.Goals as goal

pub loop-next-init : goal.loop-next-init
loop-next-init c = λ before outs.
    goes_start (signals_left c.args.scopes.now) put_signal (before, []) c.args.list.now c.args.count (λ s. OutputsStand s.0 c.args.outputs c.args.signals × SameNames s.1 c.new.result) c.requires (outs, names_of_none c.new.result c.new.ensures)

pub loop-next-preserved : goal.loop-next-preserved
loop-next-preserved c = λ before outs.
    goes_on (signals_left c.args.scopes.now) (one_signal c.args.scopes.now) put_signal (before, []) c.args.list.now c.args.count
    (λ s. OutputsStand s.0 c.loop-next.walked.outputs c.loop-next.walked.signals × SameNames s.1 c.loop-next.walked.names)
    (λ s. OutputsStand s.0 c.in_ok-walked.walked.outputs c.in_ok-walked.walked.signals × SameNames s.1 c.in_ok-walked.walked.names)
    c.loop-next.next-index c.loop-next.walked.count c.in_ok-walked.walked.count c.next-item.result (signals_first c.args.scopes.now) (omega arith) c.next-item.is (c.loop-next.invariant before outs)
    (λ s h. c.in_ok-walked.ensures s.0 s.1 (c.loop-next.invariant before outs).within h.0 h.1)

pub returns-in_err-walked : goal.returns-in_err-walked
returns-in_err-walked c = λ before outs.
    let p = err_from_is_err_and c.from_residual.result c.from_residual.ensures.1 in
    rw (p.1, p.2) (goes_stops (signals_left c.args.scopes.now) (one_signal c.args.scopes.now) put_signal (before, []) c.args.list.now c.args.count
    (λ s. OutputsStand s.0 c.loop-next.walked.outputs c.loop-next.walked.signals × SameNames s.1 c.loop-next.walked.names)
    c.loop-next.next-index c.loop-next.walked.count c.next-item.result _ (signals_first c.args.scopes.now) (omega arith) c.next-item.is (c.loop-next.invariant before outs)
    (λ s h. c.in_err-walked.ensures s.0 s.1 (c.loop-next.invariant before outs).within h.0 h.1))

pub returns : goal.returns
returns c = λ before outs.
    let all = goes_end (signals_left c.args.scopes.now) put_signal (before, []) c.args.list.now c.args.count
    (λ s. OutputsStand s.0 c.loop-next.walked.outputs c.loop-next.walked.signals × SameNames s.1 c.loop-next.walked.names) c.loop-next.next-index c.loop-next.walked.count
    (signals_none c.args.scopes.now) (omega arith) (c.loop-next.invariant before outs) in
    (all.0, all.1, subst (λ (ss : List Signal). OutputsStand ss c.loop-next.walked.outputs c.loop-next.walked.signals) (signals_then (before, []) c.args.list.now) all.2.0)
