-- One pass over nets that gives each the value of its source.
use Rattle.std.specs.Prelude.{◌≡◌, ℕ, ◌<◌, List, length, slice_set, All}
use Rattle.std.specs.List.{fold}
use Rattle.four_state.specs.declared.bit.Bit3.{Bit3}
use Rattle.blif_read.specs.declared.netlist.NetCover.{NetCover}
use Rattle.blif_read.specs.Valid.{FitsCover}
use Rattle.blif_device.specs.declared.sources.Source.{Source}
use Rattle.blif_device.specs.declared.sources.Source.TheVariants.{Latch}
use Rattle.blif_device.specs.Valuations.{Valuation, valuation}
use Rattle.blif_device.specs.Sources.{source_at, source_value}

-- one net more
abbrev pub settle_net : List NetCover → List Source → Valuation → List Bit3 → List Bit3 → ℕ → List Bit3
settle_net covers table driven held values net = slice_set values net (source_value (valuation values) covers driven held net (source_at table net))

abbrev pub pass_over : List NetCover → List Source → Valuation → List Bit3 → List Bit3 → List ℕ → List Bit3
pass_over covers table driven held values order = fold (settle_net covers table driven held) values order

-- what a pass reads is there
pub record CanPass (covers : List NetCover) (table : List Source) (driven held : List Bit3) : Type 0 where
  pub driven_size : length driven ≡ length table
  pub held_size : (net k : ℕ) → source_at table net ≡ Latch k → k < length held
  pub covers_fit : All (FitsCover (length table)) covers

-- each net has the value of its source
abbrev pub IsFixed : List NetCover → List Source → Valuation → List Bit3 → Valuation → Type 0
IsFixed covers table driven held v = (net : ℕ) → net < length table → v net ≡ source_value v covers driven held net (source_at table net)
