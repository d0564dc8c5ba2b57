use Rattle.std.proofs.Common.{take}
use Rattle.blif_read.specs.Netlists.{Parts}
use Rattle.vera_ast.specs.Signals.{signals_in}
use Rattle.signal_link.specs.Linking.{IsLinkerOf, AreLinked}
use Rattle.signal_link.proofs.linking.link.Given as goal

abbrev pub invariant-loop-item : goal.invariant-loop-item
invariant-loop-item l = (p : Parts) → IsLinkerOf p l.linker → AreLinked p (signals_in (take l.item-index l.item-items)) l.found
