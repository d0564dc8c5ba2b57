use Rattle.std.proofs.Common.{◌≡◌, drop}
use Rattle.not_built.specs.Interfaces.{signal_lines}
use Rattle.not_built.specs.Passing.{first_in}
use Rattle.not_built.proofs.interfaces.in_signals.Given as goal

abbrev pub invariant-loop-signal : goal.invariant-loop-signal
invariant-loop-signal l = first_in signal_lines (drop l.signal-index l.signals) ≡ first_in signal_lines l.signals
