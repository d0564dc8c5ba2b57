use Rattle.std.proofs.Common.{arith}
use Rattle.std.proofs.lemmas.Result.{err_from_is_err_and}
use Rattle.vera_decls.proofs.InterfaceSteps.{known_next, known_stops, known_ends}
use Rattle.vera_decls.proofs.interfaces.known_signals.Goals as goal

pub returns-in_err-width : goal.returns-in_err-width
returns-in_err-width c =
    let p = err_from_is_err_and c.from_residual.result c.from_residual.ensures.1 in
    rw (p.1, p.2) (known_stops c.args.scopes.now c.args.signals.now c.loop-signal.signal-index c.loop-signal.number c.signal-item.result c.loop-signal.known _ _ (omega arith) c.signal-item.is c.loop-signal.invariant c.in_err-width.ensures)

pub loop-signal-preserved : goal.loop-signal-preserved
loop-signal-preserved c =
    known_next c.args.scopes.now c.args.signals.now c.loop-signal.signal-index c.loop-signal.number c.in_ok-number.number c.signal-item.result c.loop-signal.known c.in_ok-known.known c.in_ok-width.width _ (omega arith) c.signal-item.is
    c.loop-signal.invariant c.in_ok-width.ensures c.in_ok-number.ensures (rw (c.as_slice.ensures, c.kind_of-kind.ensures) at c.in_ok-known.ensures)

pub returns : goal.returns
returns c = known_ends c.args.scopes.now c.args.signals.now c.loop-signal.signal-index c.loop-signal.number c.loop-signal.known _ (omega arith) c.loop-signal.invariant
