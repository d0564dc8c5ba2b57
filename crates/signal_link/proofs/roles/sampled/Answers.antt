use Rattle.std.proofs.Common.{List, ℕ, [], ◌++◌, ◌≡◌, ap, ◌∙◌, subst}
use Rattle.blif_read.specs.Reading.{parts_of}
use Rattle.signal_link.specs.Marks.{AreMarks}
use Rattle.signal_link.proofs.Marked.{sampled_nets}
use Rattle.signal_link.proofs.roles.sampled.Goals as goal

pub returns : goal.returns
returns c =
    let both : c.as_slice.result.now ++ c.as_slice-2.result.now ≡ c.args.netlist.now.outputs ++ c.args.netlist.now.inputs =
    ap (λ (nets : List ℕ). nets ++ c.as_slice-2.result.now) c.as_slice.ensures ∙ ap (λ (nets : List ℕ). c.args.netlist.now.outputs ++ nets) c.as_slice-2.ensures in
    sampled_nets (parts_of c.args.netlist.now) c.mark-2.new.marks.items
    (subst (λ (nets : List ℕ). AreMarks c.mark-2.new.marks.items nets) both (c.mark-2.ensures.marked c.as_slice.result.now (c.mark.ensures.marked [] c.in_ok-found.ensures.none)))
