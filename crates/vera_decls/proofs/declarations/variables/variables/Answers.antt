use Rattle.std.proofs.Common.{arith}
use Rattle.std.proofs.lemmas.Result.{err_from_is_err_and}
use Rattle.vera_decls.proofs.Families.{put_variable, variables_left, one_variable, variables_first, variables_none, variables_stand}
use Rattle.vera_decls.proofs.Going.{goes_start, goes_on, goes_stops, goes_end}
use Rattle.vera_names.specs.NameSets.{SameNames}
use Rattle.vera_decls.proofs.declarations.variables.variables.Goals as goal

pub loop-next-init : goal.loop-next-init
loop-next-init c = λ d typed stand same. goes_start (variables_left c.args.scopes.now d) put_variable stand c.args.variables.now c.args.count (λ s. SameNames s c.args.before) c.requires same

pub loop-next-preserved : goal.loop-next-preserved
loop-next-preserved c = λ d typed stand same.
    goes_on (variables_left c.args.scopes.now d) (one_variable c.args.scopes.now d) put_variable stand c.args.variables.now c.args.count (λ s. SameNames s c.loop-next.walked.names) (λ s. SameNames s c.in_ok-walked.walked.names)
    c.loop-next.next-index c.loop-next.walked.count c.in_ok-walked.walked.count c.next-item.result (variables_first c.args.scopes.now d) (omega arith) c.next-item.is (c.loop-next.invariant d typed stand same)
    (λ s h. c.in_ok-walked.ensures d typed s h)

pub returns-in_err-walked : goal.returns-in_err-walked
returns-in_err-walked c = λ d typed stand same.
    let p = err_from_is_err_and c.from_residual.result c.from_residual.ensures.1 in
    rw (p.1, p.2) (goes_stops (variables_left c.args.scopes.now d) (one_variable c.args.scopes.now d) put_variable stand c.args.variables.now c.args.count (λ s. SameNames s c.loop-next.walked.names)
    c.loop-next.next-index c.loop-next.walked.count c.next-item.result _ (variables_first c.args.scopes.now d) (omega arith) c.next-item.is (c.loop-next.invariant d typed stand same)
    (λ s h. c.in_err-walked.ensures d typed s h))

pub returns : goal.returns
returns c = λ d typed stand same.
    let all = goes_end (variables_left c.args.scopes.now d) put_variable stand c.args.variables.now c.args.count (λ s. SameNames s c.loop-next.walked.names) c.loop-next.next-index c.loop-next.walked.count
    (variables_none c.args.scopes.now d) (omega arith) (c.loop-next.invariant d typed stand same) in
    (all.0, all.1, variables_stand stand c.args.variables.now c.loop-next.walked.names all.2)
