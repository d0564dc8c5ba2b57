-- A valuation gives each net 0, 1 or x.
use Rattle.std.specs.Prelude.{◌≡◌, ℕ, ◌<◌, List, slice_index_or}
use Rattle.four_state.specs.declared.bit.Bit3.{Bit3}
use Rattle.four_state.specs.declared.bit.Bit3.TheVariants.{X}

abbrev pub Valuation : Type 0
Valuation = ℕ → Bit3

-- that of a value for each net; x past them
abbrev pub valuation : List Bit3 → Valuation
valuation values net = slice_index_or values net X

-- two valuations are the same on so many nets
abbrev pub IsSame : ℕ → Valuation → Valuation → Type 0
IsSame count v w = (net : ℕ) → net < count → v net ≡ w net
