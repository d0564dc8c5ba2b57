use Rattle.std.proofs.Common.{◌≡◌, length, map, take}
use Rattle.blif_device.specs.Sources.{source_reads}
use Rattle.blif_device.proofs.walk.inputs_left.Given as goal

abbrev pub invariant-loop-source : goal.invariant-loop-source
invariant-loop-source l = l.left.items ≡ map (λ s. length (source_reads l.covers s)) (take l.source-index l.sources)
