use Rattle.std.proofs.Common.{List, ℕ, take, arith, subst, sym}
use Rattle.std.proofs.lemmas.List.{take_more}
use Rattle.blif_device.specs.Reaching.{MarksAll}
use Rattle.blif_device.proofs.Marking.{marks_both}
use Rattle.blif_device.proofs.rings.mark_all.Goals as goal

pub loop-net-preserved : goal.loop-net-preserved
loop-net-preserved c =
    let nets = c.args.nets.now in
    let i = c.loop-net.net-index in
    subst (λ (xs : List ℕ). MarksAll xs c.args.marks.now c.mark.new.marks c.args.found.now.items c.mark.new.found.items) (sym (take_more nets i 0 (omega arith)))
    (marks_both (take i nets) _ c.args.marks.now c.loop-net.marks c.mark.new.marks c.args.found.now.items c.loop-net.found.items c.mark.new.found.items c.loop-net.invariant c.in_ok-mark.ensures)
