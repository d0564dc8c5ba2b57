use Rattle.std.proofs.Common.{List, Err, sym, ap, subst, ◌∙◌}
use Rattle.std.proofs.lemmas.Result.{err_from_is_err_and}
use Rattle.vera_ast.specs.declared.typed.interface.TypedSignal.{TypedSignal}
use Rattle.vera_decls.proofs.InterfaceSteps.{interface_no_signals, interface_wrong, interface_right, clocks_in}
use Rattle.vera_names.proofs.Answering.{refused_as}
use Rattle.vera_ast.specs.declared.tree.interfaces.Signal.{Signal}
use Rattle.typing_rules.specs.Answers.{Answers}
use Rattle.typing_rules.specs.Checked.{each}
use Rattle.typing_rules.specs.Interfaces.{typed_signal, is_one_clock}
use Rattle.vera_decls.proofs.interfaces.typed_interface.Goals as goal

pub returns-in_err-signals : goal.returns-in_err-signals
returns-in_err-signals c =
    let p = err_from_is_err_and c.from_residual.result c.from_residual.ensures.1 in
    rw (p.1, p.2) (interface_no_signals c.args.scopes.now c.args.interface.now _
    (subst (λ (ss : List Signal). Answers (each (typed_signal c.args.scopes.now) ss) (Err c.in_err-signals.field-0.0)) c.as_slice.ensures c.in_err-signals.ensures))

pub returns-then-not-has_one_clock : goal.returns-then-not-has_one_clock
returns-then-not-has_one_clock c =
    refused_as _ _ _ c.refused.ensures
    (interface_wrong c.args.scopes.now c.args.interface.now _ (rw c.as_slice.ensures at c.in_ok-signals.ensures)
    (ap (λ (ss : List TypedSignal). is_one_clock (clocks_in ss)) (sym c.as_slice-2.ensures) ∙ sym c.has_one_clock.ensures ∙ c.if-not-has_one_clock.true))

pub returns : goal.returns
returns c =
    rw c.in_ok-copy.ensures
    (interface_right c.args.scopes.now c.args.interface.now _ (rw c.as_slice.ensures at c.in_ok-signals.ensures)
    (ap (λ (ss : List TypedSignal). is_one_clock (clocks_in ss)) (sym c.as_slice-2.ensures) ∙ sym c.has_one_clock.ensures ∙ c.if-not-has_one_clock.false))
