-- When a valuation of a netlist is settled.
use Rattle.std.specs.Prelude.{◌≡◌, ◌≢◌, ℕ, List, map, length, All, Some}
use Rattle.four_state.specs.declared.bit.Bit3.{Bit3}
use Rattle.four_state.specs.declared.bit.Bit3.TheVariants.{X}
use Rattle.blif_read.specs.Netlists.{Parts}
use Rattle.blif_device.specs.Valuations.{Valuation, IsSame}
use Rattle.blif_device.specs.Covers.{cover_value}

-- Each input that isn't the clock net has its driven value, each latch output what the latch holds, the clock net is
-- x, and each cover's output is the value of its rows.
pub record IsSettled (n : Parts) (driven : Valuation) (held : List Bit3) (v : Valuation) : Type 0 where
  pub inputs : All (λ net. n.clock ≢ Some net → v net ≡ driven net) n.inputs
  pub latches : map (λ l. v l.output) n.latches ≡ held
  pub clock : (net : ℕ) → n.clock ≡ Some net → v net ≡ X
  pub covers : All (λ c. v c.output ≡ cover_value v c) n.covers

-- v is settled, and every settled valuation is v on all nets
pub record IsTheSettled (n : Parts) (driven : Valuation) (held : List Bit3) (v : Valuation) : Type 0 where
  pub settled : IsSettled n driven held v
  pub only : (w : Valuation) → IsSettled n driven held w → IsSame (length n.nets) w v

-- whatever is driven and held, there is exactly one settled valuation
pub record HasOneSettled (n : Parts) : Type 0 where
  pub one : (driven : Valuation) (held : List Bit3) → length held ≡ length n.latches → (v : Valuation) × IsTheSettled n driven held v
