use Rattle.std.proofs.Common.{◌≡◌, take}
use Rattle.std.specs.List.{flat_map}
use Rattle.blif_read.specs.Netlists.{latch_of}
use Rattle.blif_read.proofs.parts.all_latches.Given as goal

abbrev pub invariant-loop-block : goal.invariant-loop-block
invariant-loop-block l = l.found.items ≡ flat_map (λ b. latch_of b.directive) (take l.block-index l.blocks)
