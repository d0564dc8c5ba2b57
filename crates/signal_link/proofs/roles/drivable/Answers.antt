use Rattle.std.proofs.Common.{List, ℕ, [], subst, length, ◌<◌, arith}
use Rattle.blif_read.specs.Reading.{parts_of}
use Rattle.signal_link.specs.Marks.{AreMarks}
use Rattle.signal_link.proofs.Marked.{drivable_with_clock, drivable_without_clock}
use Rattle.signal_link.proofs.roles.drivable.Goals as goal

pub returns-in-Some : goal.returns-in-Some
returns-in-Some c =
    let within = c.args.netlist.now.valid.clock c.in-Some.clock c.in-Some.is in
    drivable_with_clock (parts_of c.args.netlist.now) c.mark.new.marks.items c.in-Some.clock
    (subst (λ (nets : List ℕ). AreMarks c.mark.new.marks.items nets) c.as_slice.ensures (c.mark.ensures.marked [] c.in_ok-marks.ensures.none))
    c.in-Some.is (omega (arith, within, c.in_ok-marks.ensures.count, c.len.ensures, c.mark.ensures.same))

pub returns-in-None : goal.returns-in-None
returns-in-None c =
    drivable_without_clock (parts_of c.args.netlist.now) c.mark.new.marks.items
    (subst (λ (nets : List ℕ). AreMarks c.mark.new.marks.items nets) c.as_slice.ensures (c.mark.ensures.marked [] c.in_ok-marks.ensures.none))
    c.in-None.is
