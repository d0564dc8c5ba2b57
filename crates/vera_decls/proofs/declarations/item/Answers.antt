use Rattle.std.proofs.lemmas.Result.{err_from_is_err_and}
use Rattle.vera_decls.proofs.ItemParts.{names_next, outputs_next}
use Rattle.vera_decls.proofs.ItemWalks.{own_stops, signals_stop, item_leads}
use Rattle.vera_decls.proofs.NameLines.{within_limit}
use Rattle.typing_rules.specs.FileNames.{file_names, signals_in}
use Rattle.vera_decls.proofs.declarations.item.Goals as goal

pub returns-in_err-walked : goal.returns-in_err-walked
returns-in_err-walked c = λ before same outs.
    let p = err_from_is_err_and c.from_residual.result c.from_residual.ensures.1 in
    rw (p.1, p.2) (own_stops c.args.filed.count c.args.scopes.now before c.args.of.now _ (c.in_err-walked.ensures (file_names before) same))

pub with_signals-requires : goal.with_signals-requires
with_signals-requires c = within_limit c.args.filed.names c.in_ok-walked.walked.count _ _ c.in_ok-walked.ensures

pub returns-in_err-next : goal.returns-in_err-next
returns-in_err-next c = λ before same outs.
    let p = err_from_is_err_and c.from_residual-in_err-next.result c.from_residual-in_err-next.ensures.1 in
    let own = c.in_ok-walked.ensures (file_names before) same in
    rw (p.1, p.2) (signals_stop c.args.filed.count c.args.scopes.now before c.args.of.now c.in_ok-walked.walked.count _ own.0 (c.in_err-next.ensures (signals_in before) outs))

pub returns : goal.returns
returns c = λ before same outs.
    let own = c.in_ok-walked.ensures (file_names before) same in
    let next = c.in_ok-next.ensures (signals_in before) outs in (
      item_leads c.args.filed.count c.args.scopes.now before c.args.of.now c.in_ok-walked.walked.count c.in_ok-next.next.count own.0 next.0,
      next.1,
      (names_next before c.args.of.now c.in_ok-walked.walked.names own.2, outputs_next before c.args.of.now c.in_ok-next.next.outputs c.in_ok-next.next.signals next.2),
    )
