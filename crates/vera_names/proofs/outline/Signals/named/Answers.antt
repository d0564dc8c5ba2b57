use Rattle.std.proofs.Common.{sym}
use Rattle.vera_names.proofs.SignalMaps.{signal_absent, signal_found}
use Rattle.vera_names.proofs.outline.Signals.named.Goals as goal

pub returns-in_err-place : goal.returns-in_err-place
returns-in_err-place c = let e = signal_absent c.self.inside.signals.items _ c.args.name.now c.self.invariant (sym c.in_err-place.ensures.value) in cc

pub returns : goal.returns
returns c = let e = signal_found c.self.inside.signals.items _ c.args.name.now _ c.self.invariant (sym c.in_ok-place.ensures.value) in cc
