use Rattle.std.proofs.Common.{◌≡◌, ◌≢◌, ℕ, ◌<◌, get_or, All}
use Rattle.blif_read.specs.declared.netlist.NetCover as item
use Rattle.blif_device.specs.declared.sources.Source.TheVariants as source
use Rattle.blif_device.specs.Sources.{source_at}
use Rattle.blif_device.proofs.sources.put_covers.Given as goal

abbrev pub invariant-loop-index : goal.invariant-loop-index
invariant-loop-index l = record {
  put : (k : ℕ) (d : item.NetCover) → k < l.index → source_at l.table (get_or l.covers k d).output ≡ source.Cover k;
  others : (net : ℕ) → All (λ (x : item.NetCover). x.output ≢ net) l.covers → source_at l.table net ≡ source_at l.fn.table net;
}
