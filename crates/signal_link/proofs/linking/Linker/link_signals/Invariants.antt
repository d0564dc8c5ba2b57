use Rattle.std.proofs.Common.{ℕ, List, ◌++◌, map, take}
use Rattle.blif_read.specs.Netlists.{Parts}
use Rattle.vera_ast.specs.Signals.{NamedSignal}
use Rattle.signal_link.specs.Linking.{IsLinkerOf, AreLinked, named}
use Rattle.signal_link.proofs.linking.Linker.link_signals.Given as goal

abbrev pub invariant-loop-signal : goal.invariant-loop-signal
invariant-loop-signal l = (p : Parts) (known : List NamedSignal) (interface : List ℕ) → IsLinkerOf p l.self → AreLinked p known l.fn.found → AreLinked p (known ++ map (named interface) (take l.signal-index l.signals)) l.found
