-- What the steps of a walk say.
use Rattle.std.specs.Prelude.{◌≡◌, ◌≢◌, ℕ, ◌<◌, List, length, slice_index, Option, Some, None}
use Rattle.blif_read.specs.declared.netlist.NetCover.{NetCover}
use Rattle.blif_device.specs.declared.sources.Source.{Source}
use Rattle.blif_device.specs.declared.walk.Walk.{Walk}
use Rattle.blif_device.specs.declared.walk.Mark.TheVariants.{New}
use Rattle.blif_device.specs.Sources.{table_reads}
use Rattle.blif_device.specs.Rings.{Depends}
use Rattle.blif_device.specs.Orders.{IsOrder, ReadsBelow}
use Rattle.blif_device.specs.Walks.{Walks, mark_at, steps_left}

abbrev pub IsWalk : List NetCover → List Source → Walk → Type 0
IsWalk covers table w = Walks (table_reads covers table) (length table) w.marks.items w.left.items w.path.items w.order.items

abbrev pub steps : Walk → ℕ
steps w = steps_left w.marks.items w.left.items w.path.items

abbrev pub TableReadsBelow : List NetCover → List Source → Type 0
TableReadsBelow covers table = ReadsBelow (table_reads covers table) (length table)

-- every net of the path depends on this one
abbrev pub Leads : (ℕ → List ℕ) → List ℕ → ℕ → Type 0
Leads reads path net = (k : ℕ) → k < length path → Depends reads (slice_index path k) net

-- fewer steps are left, and no net is new that wasn't
pub record GoesOn (covers : List NetCover) (table : List Source) (old new : Walk) : Type 0 where
  pub walk : IsWalk covers table new
  pub fewer : steps new < steps old
  pub seen : (net : ℕ) → mark_at old.marks.items net ≢ New → mark_at new.marks.items net ≢ New

-- the net isn't new, and no net is new that wasn't
pub record Starts (covers : List NetCover) (table : List Source) (old new : Walk) (net : ℕ) : Type 0 where
  pub walk : IsWalk covers table new
  pub there : mark_at new.marks.items net ≢ New
  pub seen : (other : ℕ) → mark_at old.marks.items other ≢ New → mark_at new.marks.items other ≢ New

-- the same, and the walk came back
pub record HasWalked (covers : List NetCover) (table : List Source) (old new : Walk) (net : ℕ) : Type 0 where
  pub starts : Starts covers table old new net
  pub back : length new.path.items ≡ 0

-- some net depends on itself
pub record HasRing (reads : ℕ → List ℕ) : Type 0 where
  pub net : ℕ
  pub ring : Depends reads net net

-- an order, or a ring
abbrev pub IsOrdering : (ℕ → List ℕ) → ℕ → Option (List ℕ) → Type 0
IsOrdering reads count None = HasRing reads
IsOrdering reads count (Some order) = IsOrder reads count order
