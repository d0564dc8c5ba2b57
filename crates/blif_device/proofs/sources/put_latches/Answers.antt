use Rattle.std.proofs.Common.{ℕ, ap, arith, rules}
use Rattle.std.proofs.lemmas.List.{get_or_default}
use Rattle.blif_read.specs.declared.netlist.Latch as item
use Rattle.blif_device.specs.declared.sources.Source.TheVariants as source
use Rattle.blif_device.proofs.Drivers.{put_more, others_more}
use Rattle.blif_device.proofs.sources.put_latches.Goals as goal

pub loop-index-preserved : goal.loop-index-preserved
loop-index-preserved c =
    let f : item.Latch → ℕ = λ x. x.output in
    let xs = c.args.latches.now in
    let i = c.loop-index.index in
    record {
      put = put_more f source.Latch xs c.loop-index.table i _ (λ d. ap f (get_or_default xs i _ d (omega arith))) (omega arith) (search rules) c.requires.distinct c.loop-index.invariant.put;
      others = others_more f (source.Latch i) xs c.args.table.now c.loop-index.table i _ (λ d. ap f (get_or_default xs i _ d (omega arith))) (omega arith) c.loop-index.invariant.others;
    }
