use Rattle.std.proofs.Common.{refl, arith}
use Rattle.std.proofs.lemmas.Result.{err_from_is_err_and}
use Rattle.vera_names.proofs.Items.{each_goes, each_stops, each_ends}
use Rattle.typing_rules.specs.Interfaces.{typed_signal}
use Rattle.vera_decls.proofs.interfaces.typed_signals.Goals as goal

pub loop-signal-preserved : goal.loop-signal-preserved
loop-signal-preserved c =
    rw c.in_ok-push.ensures.items
    (each_goes (typed_signal c.args.scopes.now) c.args.signals.now c.loop-signal.signal-index c.signal-item.result c.in_ok-next.next c.loop-signal.typed.items _ _ (omega arith) c.signal-item.is c.in_ok-next.ensures refl c.loop-signal.invariant)

pub returns-in_err-next : goal.returns-in_err-next
returns-in_err-next c =
    let p = err_from_is_err_and c.from_residual.result c.from_residual.ensures.1 in
    rw (p.1, p.2) (each_stops (typed_signal c.args.scopes.now) c.args.signals.now c.loop-signal.signal-index c.signal-item.result c.loop-signal.typed.items _ _ (omega arith) c.signal-item.is c.in_err-next.ensures c.loop-signal.invariant)

pub returns : goal.returns
returns c = rw c.of.ensures (each_ends (typed_signal c.args.scopes.now) c.args.signals.now c.loop-signal.signal-index c.loop-signal.typed.items _ (omega arith) c.loop-signal.invariant)
