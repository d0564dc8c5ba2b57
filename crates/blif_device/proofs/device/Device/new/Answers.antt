use Rattle.blif_read.specs.Reading.{parts_of}
use Rattle.blif_device.proofs.Fixing.{one_settled}
use Rattle.blif_device.proofs.Deciding.{no_ring}
use Rattle.blif_device.proofs.device.Device.new.Goals as goal

pub returns : goal.returns
returns c =
    let n = c.args.netlist.now in
    let table = c.in_ok-sources.sources.items in
    let order = c.in-Some.order.items in
    let ordering = rw (c.as_slice.ensures, c.deref.ensures.value, c.in-Some.is) at c.in_ok-order.ensures in
    record {
      device = c.in_ok-made.ensures;
      no_ring = no_ring (parts_of n) table order n.valid c.in_ok-sources.ensures ordering;
      law = one_settled (parts_of n) table order n.valid c.in_ok-sources.ensures ordering;
    }
