use Rattle.std.proofs.lemmas.Result.{err_from_is_err_and}
use Rattle.std.proofs.Common.{◌≡◌, ◌∙◌, ap, ◌+◌, Result, Err, List, ◌++◌, subst, map, take, drop, refl, arith, sym}
use Rattle.std.proofs.lemmas.List.{take_all}
use Rattle.vera_ast.specs.declared.typed.interface.TypedSignal.{TypedSignal}
use Rattle.vera_ast.specs.Signals.{NamedSignal}
use Rattle.signal_link.specs.declared.linking.LinkError.{LinkError}
use Rattle.signal_link.specs.Linking.{Continues, AreLinked, named}
use Rattle.signal_link.proofs.Labelled.{named-more, named-rest}
use Rattle.signal_link.proofs.Orders.{refused_more}
use Rattle.signal_link.proofs.linking.Linker.link_signals.Goals as goal

pub returns-in_err-link_signal : goal.returns-in_err-link_signal
returns-in_err-link_signal c = λ p known interface h l.
    let x = err_from_is_err_and c.from_residual.result c.from_residual.ensures.1 in
    let same : c.from_residual.result ≡ Err c.in_err-link_signal.field-0.0 = x.1 ∙ ap (λ (e : LinkError). Err e) x.2 in
    let done = known ++ map (named interface) (take c.loop-signal.signal-index c.args.signals.now) in
    let stays = refused_more p _ (map (named interface) (drop (c.loop-signal.signal-index + 1) c.args.signals.now)) c.link_signal.new.found c.link_signal.new.found c.in_err-link_signal.field-0.0
    (c.in_err-link_signal.ensures p done (named interface c.signal-item.result) h (c.loop-signal.invariant p known interface h l) refl) in
    subst (λ (r : Result (Unit {0}) LinkError). Continues p (known ++ map (named interface) c.args.signals.now) c.link_signal.new.found r) (sym same)
    (subst (λ (xs : List NamedSignal). Continues p xs c.link_signal.new.found (Err c.in_err-link_signal.field-0.0))
    (named-rest known interface c.args.signals.now c.loop-signal.signal-index c.signal-item.result (omega arith) c.signal-item.is) stays)

pub loop-signal-preserved : goal.loop-signal-preserved
loop-signal-preserved c = λ p known interface h l.
    subst (λ (xs : List NamedSignal). AreLinked p xs c.link_signal.new.found)
    (named-more known interface c.args.signals.now c.loop-signal.signal-index c.signal-item.result (omega arith) c.signal-item.is)
    (c.in_ok-link_signal.ensures p (known ++ map (named interface) (take c.loop-signal.signal-index c.args.signals.now)) (named interface c.signal-item.result) h (c.loop-signal.invariant p known interface h l) refl)

pub returns : goal.returns
returns c = λ p known interface h l.
    subst (λ (ss : List TypedSignal). AreLinked p (known ++ map (named interface) ss) c.loop-signal.found) (take_all c.loop-signal.signal-index c.args.signals.now (omega arith)) (c.loop-signal.invariant p known interface h l)
