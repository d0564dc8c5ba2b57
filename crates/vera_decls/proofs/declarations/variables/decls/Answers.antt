use Rattle.std.proofs.Common.{[], arith}
use Rattle.std.proofs.lemmas.Result.{err_from_is_err_and}
use Rattle.vera_decls.proofs.Families.{put_decl, one_decl, decls_first, decls_none}
use Rattle.vera_decls.proofs.Going.{goes_start, goes_on, goes_stops, goes_end}
use Rattle.vera_names.proofs.NameSets.{names_of_none}
use Rattle.typing_rules.specs.Declarations.{decl_parts}
use Rattle.vera_names.specs.NameSets.{SameNames}
use Rattle.vera_decls.proofs.declarations.variables.decls.Goals as goal

pub loop-next-init : goal.loop-next-init
loop-next-init c = goes_start (decl_parts c.args.scopes.now) put_decl [] c.args.decls.now c.args.count (λ s. SameNames s c.new.result) c.requires (names_of_none c.new.result c.new.ensures)

pub loop-next-preserved : goal.loop-next-preserved
loop-next-preserved c =
    goes_on (decl_parts c.args.scopes.now) (one_decl c.args.scopes.now) put_decl [] c.args.decls.now c.args.count (λ s. SameNames s c.loop-next.walked.names) (λ s. SameNames s c.in_ok-walked.walked.names)
    c.loop-next.next-index c.loop-next.walked.count c.in_ok-walked.walked.count c.next-item.result (decls_first c.args.scopes.now) (omega arith) c.next-item.is c.loop-next.invariant
    (λ s h. c.in_ok-walked.ensures s h)

pub returns-in_err-walked : goal.returns-in_err-walked
returns-in_err-walked c =
    let p = err_from_is_err_and c.from_residual.result c.from_residual.ensures.1 in
    rw (p.1, p.2) (goes_stops (decl_parts c.args.scopes.now) (one_decl c.args.scopes.now) put_decl [] c.args.decls.now c.args.count (λ s. SameNames s c.loop-next.walked.names)
    c.loop-next.next-index c.loop-next.walked.count c.next-item.result _ (decls_first c.args.scopes.now) (omega arith) c.next-item.is c.loop-next.invariant
    (λ s h. c.in_err-walked.ensures s h))

pub returns : goal.returns
returns c =
    let all = goes_end (decl_parts c.args.scopes.now) put_decl [] c.args.decls.now c.args.count (λ s. SameNames s c.loop-next.walked.names) c.loop-next.next-index c.loop-next.walked.count
    (decls_none c.args.scopes.now) (omega arith) c.loop-next.invariant in
    (all.0, all.1, tt)
