use Rattle.std.proofs.Common.{◌≡◌, take}
use Rattle.blif_read.specs.Refusals.{each, inputs}
use Rattle.blif_read.proofs.parts.all_inputs.Given as goal

abbrev pub invariant-loop-block : goal.invariant-loop-block
invariant-loop-block l = l.found.items ≡ each inputs (take l.block-index l.blocks)
