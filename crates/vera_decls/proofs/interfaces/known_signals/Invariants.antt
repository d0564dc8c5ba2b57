use Rattle.std.proofs.Common.{◌≡◌, drop}
use Rattle.typing_rules.specs.Interfaces.{known_signals}
use Rattle.vera_names.specs.Lists.{behind}
use Rattle.vera_decls.proofs.interfaces.known_signals.Given as goal

abbrev pub invariant-loop-signal : goal.invariant-loop-signal
invariant-loop-signal l = behind l.known (known_signals l.scopes l.number (drop l.signal-index l.signals)) ≡ known_signals l.scopes l.from l.signals
