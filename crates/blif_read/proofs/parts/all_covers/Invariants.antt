use Rattle.std.proofs.Common.{◌≡◌, take}
use Rattle.std.specs.List.{flat_map}
use Rattle.blif_read.specs.Netlists.{cover_of}
use Rattle.blif_read.proofs.parts.all_covers.Given as goal

abbrev pub invariant-loop-block : goal.invariant-loop-block
invariant-loop-block l = l.found.items ≡ flat_map (λ b. cover_of b.directive b.rows) (take l.block-index l.blocks)
