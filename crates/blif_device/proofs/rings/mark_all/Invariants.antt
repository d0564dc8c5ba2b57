use Rattle.std.proofs.Common.{take}
use Rattle.blif_device.specs.Reaching.{MarksAll}
use Rattle.blif_device.proofs.rings.mark_all.Given as goal

abbrev pub invariant-loop-net : goal.invariant-loop-net
invariant-loop-net l = MarksAll (take l.net-index l.nets) l.fn.marks l.marks l.fn.found.items l.found.items
