use Rattle.std.proofs.Common.{◌≡◌, ◌++◌, map, take}
use Rattle.std.specs.Prelude.{codes}
use Rattle.signal_link.proofs.labels.push_labels.Given as goal

abbrev pub invariant-loop-signal : goal.invariant-loop-signal
invariant-loop-signal l = l.names.items ≡ l.fn.names.items ++ map (λ s. l.interface.name ++ codes "." ++ s.name) (take l.signal-index l.signal-items)
