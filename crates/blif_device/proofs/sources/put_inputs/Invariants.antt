use Rattle.std.proofs.Common.{◌≡◌, ℕ, ◌<◌, get_or}
use Rattle.blif_device.specs.declared.sources.Source.TheVariants.{Driven}
use Rattle.blif_device.specs.Sources.{source_at}
use Rattle.blif_device.proofs.sources.put_inputs.Given as goal

abbrev pub invariant-loop-net : goal.invariant-loop-net
invariant-loop-net l = (k : ℕ) → k < l.net-index → source_at l.table (get_or l.inputs k 0) ≡ Driven
