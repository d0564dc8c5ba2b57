use Rattle.std.proofs.Common.{◌≡◌, ◌-◌, ◌≤◌, length}
use Rattle.blif_device.specs.Sources.{table_reads}
use Rattle.blif_device.specs.Reaching.{Reaches, nets_left}
use Rattle.blif_device.proofs.rings.reaches_itself.Given as goal

abbrev pub invariant-loop-head : goal.invariant-loop-head
invariant-loop-head l = record {
  size : length l.marks ≡ length l.sources;
  within : l.head ≤ length l.found.items;
  reaches : Reaches (table_reads l.covers l.sources) l.net l.marks l.found.items l.head;
}

abbrev pub decreases-loop-head : goal.decreases-loop-head
decreases-loop-head l = nets_left l.marks l.found.items - l.head
