use Rattle.std.proofs.Common.{length, arith}
use Rattle.blif_device.specs.Sources.{table_reads}
use Rattle.blif_device.proofs.Starting.{whole_order}
use Rattle.blif_device.proofs.walk.order.Goals as goal

pub returns : goal.returns
returns c =
    let w = c.loop-net.walk in
    whole_order (table_reads c.args.covers.now c.args.sources.now) (length c.args.sources.now) w.marks.items w.left.items w.path.items w.order.items c.loop-net.invariant.walk c.loop-net.invariant.back (λ x lt. c.loop-net.invariant.seen x (omega arith))
