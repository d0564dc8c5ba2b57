use Rattle.std.proofs.Common.{◌≡◌, ◌∙◌, ap, arith, get_or}
use Rattle.std.proofs.lemmas.List.{get_or_default}
use Rattle.four_state.specs.declared.bit.Bit3.TheVariants.{X}
use Rattle.blif_device.specs.Valuations.{valuation}
use Rattle.blif_device.specs.Covers.{literal_value}
use Rattle.blif_device.proofs.Values.{row_more, row_all}
use Rattle.blif_device.proofs.covers.row_value.Goals as goal

pub loop-index-preserved : goal.loop-index-preserved
loop-index-preserved c =
    let more = row_more (valuation c.args.values.now) c.args.inputs.now c.args.row.now c.loop-index.index (omega arith) c.requires.size in
    let it : c.literal_value.result ≡ literal_value (get_or c.args.row.now c.loop-index.index 0) (valuation c.args.values.now (get_or c.args.inputs.now c.loop-index.index 0)) =
    c.literal_value.ensures ∙ ap (literal_value (get_or c.args.row.now c.loop-index.index 0)) (get_or_default c.args.values.now (get_or c.args.inputs.now c.loop-index.index 0) _ X (c.requires.below c.loop-index.index 0 (omega arith))) in
    cc

pub returns : goal.returns
returns c = c.loop-index.invariant ∙ row_all (valuation c.args.values.now) c.args.inputs.now c.args.row.now c.loop-index.index (omega arith)
