use Rattle.std.proofs.Common.{◌≡◌, drop}
use Rattle.typing_rules.specs.Checked.{each}
use Rattle.typing_rules.specs.Interfaces.{typed_signal}
use Rattle.vera_names.specs.Lists.{behind}
use Rattle.vera_decls.proofs.interfaces.typed_signals.Given as goal

abbrev pub invariant-loop-signal : goal.invariant-loop-signal
invariant-loop-signal l = behind l.typed.items (each (typed_signal l.scopes) (drop l.signal-index l.signals)) ≡ each (typed_signal l.scopes) l.signals
