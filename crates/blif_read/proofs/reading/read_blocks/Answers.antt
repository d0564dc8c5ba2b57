use Rattle.std.proofs.Common.{sym, ◌∙◌, subst, Err, [], ◌++◌}
use Rattle.blif_read.specs.declared.reading.NetError.{NetError}
use Rattle.blif_read.specs.Reading.{IsReading}
use Rattle.blif_read.specs.Netlists.{unless_refused, parts}
use Rattle.blif_read.specs.Refusals.{line_refusals, undriven_refusals}
use Rattle.blif_read.proofs.Made.{refused_undriven, refused_nothing, none_is_nothing}
use Rattle.blif_read.proofs.reading.read_blocks.Goals as goal

pub returns-in-Some-2 : goal.returns-in-Some-2
returns-in-Some-2 c =
    let all = c.args.blocks.now in
    subst (λ (e : NetError). IsReading (Err e) (unless_refused (line_refusals all [] all ++ undriven_refusals all all) (parts c.args.known.items all))) (sym c.refused-in-Some-2.ensures)
    (refused_undriven (line_refusals all [] all) (undriven_refusals all all) (parts c.args.known.items all) c.in-Some-2.refusal (sym c.in_default.is ∙ c.in_ok-refusal.ensures) (sym c.in-Some-2.is ∙ c.in_ok-refusal-2.ensures))

pub made-requires : goal.made-requires
made-requires c = c.requires.makes (none_is_nothing _ (sym c.in_default.is ∙ c.in_ok-refusal.ensures)) (none_is_nothing _ (sym c.in_default-2.is ∙ c.in_ok-refusal-2.ensures))

pub returns : goal.returns
returns c =
    let all = c.args.blocks.now in
    refused_nothing (line_refusals all [] all) (undriven_refusals all all) _ _ (sym c.in_default.is ∙ c.in_ok-refusal.ensures) (sym c.in_default-2.is ∙ c.in_ok-refusal-2.ensures) c.in_ok-netlist.ensures
