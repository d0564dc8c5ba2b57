use Rattle.std.proofs.Common.{arith}
use Rattle.blif_read.specs.Reading.{parts_of}
use Rattle.blif_device.proofs.Drivers.{latches_distinct, covers_distinct, IsTable-put}
use Rattle.blif_device.proofs.sources.put_all.Goals as goal

pub put_latches-requires-clause-distinct : goal.put_latches-requires-clause-distinct
put_latches-requires-clause-distinct c = rw c.as_slice-2.ensures (latches_distinct (parts_of c.args.netlist.now) c.args.netlist.now.valid)

pub put_covers-requires-clause-distinct : goal.put_covers-requires-clause-distinct
put_covers-requires-clause-distinct c = rw c.as_slice-3.ensures (covers_distinct (parts_of c.args.netlist.now) c.args.netlist.now.valid)

pub returns : goal.returns
returns c =
    let put1 = rw c.as_slice.ensures at c.put_inputs.ensures in
    let put2 = rw c.as_slice-2.ensures at c.put_latches.ensures.put in
    let others2 = rw c.as_slice-2.ensures at c.put_latches.ensures.others in
    let put3 = rw c.as_slice-3.ensures at c.put_covers.ensures.put in
    let others3 = rw c.as_slice-3.ensures at c.put_covers.ensures.others in
    IsTable-put (parts_of c.args.netlist.now) c.args.netlist.now.valid _ _ _ _ (omega arith) put1 put2 others2 put3 others3 c.put_clock.ensures.put c.put_clock.ensures.others
