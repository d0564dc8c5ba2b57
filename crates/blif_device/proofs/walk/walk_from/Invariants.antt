use Rattle.blif_device.specs.Walking.{Starts, steps}
use Rattle.blif_device.proofs.walk.walk_from.Given as goal

abbrev pub invariant-loop-walk : goal.invariant-loop-walk
invariant-loop-walk l = Starts l.covers l.sources l.fn.walk l.walk l.net

abbrev pub decreases-loop-walk : goal.decreases-loop-walk
decreases-loop-walk l = steps l.walk
