use Rattle.std.proofs.Common.{◌≡◌, drop}
use Rattle.blif_read.specs.Refusals.{undriven_refusals}
use Rattle.blif_read.specs.Checking.{first}
use Rattle.blif_read.proofs.undriven.undriven_refusal.Given as goal

abbrev pub invariant-loop-block : goal.invariant-loop-block
invariant-loop-block l = first (undriven_refusals l.blocks (drop l.block-index l.blocks)) ≡ first (undriven_refusals l.blocks l.blocks)
