use Rattle.std.proofs.Common.{ℕ, length, subst, Option}
use Rattle.blif_read.specs.Reading.{parts_of}
use Rattle.blif_device.specs.Sources.{table_reads}
use Rattle.blif_device.specs.Reaching.{TellsFirst}
use Rattle.blif_device.proofs.Deciding.{first_ring, ring_below}
use Rattle.blif_device.proofs.device.ring.Goals as goal

pub unreachable-requires : goal.unreachable-requires
unreachable-requires c =
    let covers = c.args.netlist.now.covers in
    let table = c.args.sources.now in
    let tells = rw c.as_slice.ensures at c.in_ok-net.ensures in
    let none = subst (λ (o : Option ℕ). TellsFirst (table_reads covers table) (length table) o) c.in-None.is tells in
    none c.requires.ring.net (ring_below covers table c.requires.ring.net c.requires.ring.net c.requires.ring.ring) c.requires.ring.ring

pub returns : goal.returns
returns c =
    let netlist = c.args.netlist.now in
    let table = c.args.sources.now in
    let tells = rw c.as_slice.ensures at c.in_ok-net.ensures in
    let some = subst (λ (o : Option ℕ). TellsFirst (table_reads netlist.covers table) (length table) o) c.in-Some.is tells in
    first_ring (parts_of netlist) table c.in-Some.net netlist.valid c.requires.table some
