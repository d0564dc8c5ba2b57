-- What every netlist keeps.
use Rattle.std.specs.Prelude.{◌≡◌, ◌≢◌, ℕ, ◌+◌, ◌<◌, ◌≤◌, ◌==◌, true, List, length, All, Some, count_by}
use Rattle.std.specs.List.{list_all}
use Rattle.blif_read.specs.declared.netlist.NetCover.{NetCover}
use Rattle.blif_read.specs.declared.netlist.Latch.{Latch}
use Rattle.blif_read.specs.Refusals.{is_literal, most_nets}
use Rattle.blif_read.specs.Netlists.{Parts}

-- a character `0`, `1` or `-` for each of so many inputs
pub record FitsRow (inputs : ℕ) (row : List ℕ) : Type 0 where
  pub length : length row ≡ inputs
  pub literals : list_all is_literal row ≡ true

-- a cover of nets below count
pub record FitsCover (count : ℕ) (cover : NetCover) : Type 0 where
  pub inputs : All (λ net. net < count) cover.inputs
  pub output : cover.output < count
  pub rows : All (FitsRow (length cover.inputs)) cover.rows

-- a latch between nets below count
pub record FitsLatch (count : ℕ) (latch : Latch) : Type 0 where
  pub input : latch.input < count
  pub output : latch.output < count
  pub init : latch.init ≤ 3

-- how many latches and covers drive the net
abbrev pub times_gated : Parts → ℕ → ℕ
times_gated p net = count_by (λ c. c.output == net) p.covers + count_by (λ l. l.output == net) p.latches

-- how many inputs, latches and covers do
abbrev pub times_driven : Parts → ℕ → ℕ
times_driven p net = count_by (λ n. n == net) p.inputs + times_gated p net

-- Each net number is below the number of nets; rows and latches fit; each net is driven by one input, latch or
-- cover, but for the clock net, which at most one input drives.
pub record IsValid (p : Parts) : Type 0 where
  pub few : length p.nets ≤ most_nets
  pub inputs : All (λ net. net < length p.nets) p.inputs
  pub outputs : All (λ net. net < length p.nets) p.outputs
  pub clock : (net : ℕ) → p.clock ≡ Some net → net < length p.nets
  pub covers : All (FitsCover (length p.nets)) p.covers
  pub latches : All (FitsLatch (length p.nets)) p.latches
  pub driven_once : (net : ℕ) → net < length p.nets → times_driven p net ≤ 1
  pub driven : (net : ℕ) → net < length p.nets → p.clock ≢ Some net → times_driven p net ≡ 1
  pub clock_free : (net : ℕ) → p.clock ≡ Some net → times_gated p net ≡ 0
