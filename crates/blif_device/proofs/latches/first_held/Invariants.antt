use Rattle.std.proofs.Common.{◌≡◌, take, map}
use Rattle.blif_device.specs.Edges.{first_value}
use Rattle.blif_device.proofs.latches.first_held.Given as goal

abbrev pub invariant-loop-latch : goal.invariant-loop-latch
invariant-loop-latch l = l.held.items ≡ map (λ l. first_value l.init) (take l.latch-index l.latches)
