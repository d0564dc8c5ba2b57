use Rattle.std.proofs.Common.{◌≡◌, ◌≢◌, ℕ, ◌<◌, length}
use Rattle.blif_device.specs.declared.walk.Mark.TheVariants.{New}
use Rattle.blif_device.specs.Walks.{mark_at}
use Rattle.blif_device.specs.Walking.{IsWalk}
use Rattle.blif_device.proofs.walk.order.Given as goal

abbrev pub invariant-loop-net : goal.invariant-loop-net
invariant-loop-net l = record {
  walk : IsWalk l.covers l.sources l.walk;
  back : length l.walk.path.items ≡ 0;
  seen : (x : ℕ) → x < l.net → mark_at l.walk.marks.items x ≢ New;
}
