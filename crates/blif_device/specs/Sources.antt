-- Where each net's value comes from, as a table.
use Rattle.std.specs.Prelude.{◌≡◌, ◌≢◌, ℕ, ◌<◌, List, [], length, slice_index_or, Option, Some, None, Contains}
use Rattle.std.specs.List.{slice_get}
use Rattle.four_state.specs.declared.bit.Bit3.{Bit3}
use Rattle.four_state.specs.declared.bit.Bit3.TheVariants.{X}
use Rattle.blif_read.specs.declared.netlist.NetCover.{NetCover}
use Rattle.blif_read.specs.declared.netlist.Latch as latch
use Rattle.blif_read.specs.Netlists.{Parts}
use Rattle.blif_device.specs.declared.sources.Source.{Source}
use Rattle.blif_device.specs.declared.sources.Source.TheVariants.{Clock, Driven, Latch, Cover}
use Rattle.blif_device.specs.Valuations.{Valuation}
use Rattle.blif_device.specs.Covers.{cover_value}

abbrev pub source_at : List Source → ℕ → Source
source_at table net = slice_index_or table net Clock

-- the table says of each input, latch, cover and of the clock net what drives it
pub record IsTable (n : Parts) (table : List Source) : Type 0 where
  pub size : length table ≡ length n.nets
  pub inputs : (net : ℕ) → Contains n.inputs net → n.clock ≢ Some net → source_at table net ≡ Driven
  pub latches : (k : ℕ) (d : latch.Latch) → k < length n.latches → source_at table (slice_index_or n.latches k d).output ≡ Latch k
  pub covers : (k : ℕ) (d : NetCover) → k < length n.covers → source_at table (slice_index_or n.covers k d).output ≡ Cover k
  pub clock : (net : ℕ) → n.clock ≡ Some net → source_at table net ≡ Clock

abbrev pub inputs_of : Option NetCover → List ℕ
inputs_of None = []
inputs_of (Some c) = c.inputs

-- what a net with this source reads
abbrev pub source_reads : List NetCover → Source → List ℕ
source_reads covers Clock = []
source_reads covers Driven = []
source_reads covers (Latch k) = []
source_reads covers (Cover k) = inputs_of (slice_get covers k)

abbrev pub table_reads : List NetCover → List Source → ℕ → List ℕ
table_reads covers table net = source_reads covers (source_at table net)

abbrev pub value_of : Valuation → Option NetCover → Bit3
value_of v None = X
value_of v (Some c) = cover_value v c

-- the value that a source gives, in a valuation
abbrev pub source_value : Valuation → List NetCover → Valuation → List Bit3 → ℕ → Source → Bit3
source_value v covers driven held net Clock = X
source_value v covers driven held net Driven = driven net
source_value v covers driven held net (Latch k) = slice_index_or held k X
source_value v covers driven held net (Cover k) = value_of v (slice_get covers k)
