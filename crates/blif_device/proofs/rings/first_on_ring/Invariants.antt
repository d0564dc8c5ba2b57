use Rattle.std.proofs.Common.{ℕ, ◌<◌}
use Rattle.blif_device.specs.Sources.{table_reads}
use Rattle.blif_device.specs.Rings.{Depends}
use Rattle.blif_device.proofs.rings.first_on_ring.Given as goal

abbrev pub invariant-loop-net : goal.invariant-loop-net
invariant-loop-net l = (k : ℕ) → k < l.net → Depends (table_reads l.covers l.sources) k k → ⊥
