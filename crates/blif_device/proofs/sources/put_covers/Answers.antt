use Rattle.std.proofs.Common.{◌≡◌, ◌∙◌, ℕ, ap, arith, rules, get_or}
use Rattle.std.proofs.lemmas.List.{get_or_default}
use Rattle.blif_read.specs.declared.netlist.NetCover as item
use Rattle.blif_device.specs.declared.sources.Source.TheVariants as source
use Rattle.blif_device.proofs.Drivers.{put_more, others_more}
use Rattle.blif_device.proofs.sources.put_covers.Goals as goal

pub loop-index-preserved : goal.loop-index-preserved
loop-index-preserved c =
    let f : item.NetCover → ℕ = λ x. x.output in
    let xs = c.args.covers.now in
    let i = c.loop-index.index in
    let x = c.index-covers-index.result in
    let at : (d : item.NetCover) → f x ≡ f (get_or xs i d) = λ d. ap f (c.index-covers-index.is ∙ get_or_default xs i x d (omega arith)) in
    record {
      put = put_more f source.Cover xs c.loop-index.table i (f x) at (omega arith) (search rules) c.requires.distinct c.loop-index.invariant.put;
      others = others_more f (source.Cover i) xs c.args.table.now c.loop-index.table i (f x) at (omega arith) c.loop-index.invariant.others;
    }
