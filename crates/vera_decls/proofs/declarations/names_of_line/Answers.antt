use Rattle.std.proofs.Common.{arith}
use Rattle.std.proofs.lemmas.Result.{err_from_is_err_and}
use Rattle.vera_decls.proofs.Families.{put_name, one_name, names_first, names_none, names_stand, named_on, named_stops}
use Rattle.vera_decls.proofs.Going.{goes_start, goes_on, goes_stops, goes_end}
use Rattle.typing_rules.specs.Declarations.{name_parts}
use Rattle.vera_names.specs.NameSets.{SameNames}
use Rattle.vera_decls.proofs.declarations.names_of_line.Goals as goal

pub loop-next-init : goal.loop-next-init
loop-next-init c = λ stand same. goes_start (name_parts c.args.line) put_name stand c.args.names.now c.args.count (λ s. SameNames s c.args.before) c.requires same

pub loop-next-preserved : goal.loop-next-preserved
loop-next-preserved c = λ stand same.
    goes_on (name_parts c.args.line) (one_name c.args.line) put_name stand c.args.names.now c.args.count (λ s. SameNames s c.loop-next.walked.names) (λ s. SameNames s c.in_ok-walked.walked.names)
    c.loop-next.next-index c.loop-next.walked.count c.in_ok-walked.walked.count c.next-item.result (names_first c.args.line) (omega arith) c.next-item.is (c.loop-next.invariant stand same)
    (λ s h. named_on c.args.line _ _ _ _ _ s c.as_slice.ensures (c.in_ok-walked.ensures s h))

pub returns-in_err-walked : goal.returns-in_err-walked
returns-in_err-walked c = λ stand same.
    let p = err_from_is_err_and c.from_residual.result c.from_residual.ensures.1 in
    rw (p.1, p.2) (goes_stops (name_parts c.args.line) (one_name c.args.line) put_name stand c.args.names.now c.args.count (λ s. SameNames s c.loop-next.walked.names)
    c.loop-next.next-index c.loop-next.walked.count c.next-item.result _ (names_first c.args.line) (omega arith) c.next-item.is (c.loop-next.invariant stand same)
    (λ s h. named_stops c.args.line _ _ _ _ s c.as_slice.ensures (c.in_err-walked.ensures s h)))

pub returns : goal.returns
returns c = λ stand same.
    let all = goes_end (name_parts c.args.line) put_name stand c.args.names.now c.args.count (λ s. SameNames s c.loop-next.walked.names) c.loop-next.next-index c.loop-next.walked.count
    (names_none c.args.line) (omega arith) (c.loop-next.invariant stand same) in
    (all.0, all.1, names_stand stand c.args.names.now c.loop-next.walked.names all.2)
