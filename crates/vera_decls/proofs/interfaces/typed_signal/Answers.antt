use Rattle.std.proofs.Common.{sym, ◌∙◌}
use Rattle.std.proofs.lemmas.Result.{err_from_is_err_and}
use Rattle.vera_decls.proofs.InterfaceSteps.{signal_no_width, signal_wrong, signal_right}
use Rattle.vera_names.proofs.Answering.{refused_as}
use Rattle.vera_decls.proofs.interfaces.typed_signal.Goals as goal

pub returns-in_err-width : goal.returns-in_err-width
returns-in_err-width c =
    let p = err_from_is_err_and c.from_residual.result c.from_residual.ensures.1 in
    rw (p.1, p.2) (signal_no_width c.args.scopes.now c.args.signal.now _ c.in_err-width.ensures)

pub returns-then-is_wrong_form : goal.returns-then-is_wrong_form
returns-then-is_wrong_form c =
    refused_as _ _ _ c.refused.ensures (signal_wrong c.args.scopes.now c.args.signal.now _ c.in_ok-width.ensures (sym c.is_wrong_form.ensures ∙ c.if-is_wrong_form.true))

pub returns : goal.returns
returns c = rw (c.in_ok-copy.ensures, c.kind_of.ensures) (signal_right c.args.scopes.now c.args.signal.now _ c.in_ok-width.ensures (sym c.is_wrong_form.ensures ∙ c.if-is_wrong_form.false))
