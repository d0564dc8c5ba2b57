use Rattle.std.proofs.Common.{◌≡◌, ◌+◌, ◌∙◌, ap, length, rules, List}
use Rattle.std.specs.Prelude.{Err}
use Rattle.typing_rules.specs.Answers.{Answers}
use Rattle.typing_rules.specs.declared.names.KnownSignal.{KnownSignal}
use Rattle.vera_names.specs.Lists.{behind}
use Rattle.vera_types.specs.OutlineForms.{signals_and}
use Rattle.vera_types.proofs.OutlineSteps.{signals_go, signals_stop}
use Rattle.vera_types.proofs.outlines.with_signals.Goals as goal

pub returns-in_err-found : goal.returns-in_err-found
returns-in_err-found c left =
    let h : Answers (behind c.args.known.interfaces.items (signals_and c.args.scopes.now c.args.known.count c.args.signals.now left)) (Err c.in_err-found.field-0.0) = signals_stop c.args.scopes.now c.args.known.count c.args.signals.now left _ c.args.known.interfaces.items c.in_err-found.ensures in
    search rules

pub returns : goal.returns
returns c left =
    let at : c.in_ok-count.count ≡ c.args.known.count + length c.in_ok-found.found = c.in_ok-count.ensures ∙ ap (λ (ss : List KnownSignal). c.args.known.count + length ss) c.as_slice.ensures in
    signals_go c.args.scopes.now c.args.known.count c.in_ok-count.count c.args.signals.now left c.in_ok-found.found c.args.known.interfaces.items _ c.in_ok-found.ensures at c.in_ok-with_known.ensures
