use Rattle.std.proofs.Common.{◌≡◌, drop}
use Rattle.std.specs.List.{slice_get}
use Rattle.blif_read.specs.Refusals.{each, clock_names}
use Rattle.blif_read.proofs.parts.first_clock.Given as goal

abbrev pub invariant-loop-block : goal.invariant-loop-block
invariant-loop-block l = slice_get (each clock_names (drop l.block-index l.blocks)) 0 ≡ slice_get (each clock_names l.blocks) 0
