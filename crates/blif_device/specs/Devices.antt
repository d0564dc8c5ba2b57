-- A device as its callers see it.
use Rattle.std.specs.Prelude.{◌≡◌, Bool, true, List, length, replicate}
use Rattle.four_state.specs.declared.bit.Bit3.{Bit3}
use Rattle.four_state.specs.declared.bit.Bit3.TheVariants.{X}
use Rattle.blif_read.specs.Netlists.{Parts}
use Rattle.blif_device.specs.Valuations.{valuation}
use Rattle.blif_device.specs.Settled.{IsTheSettled}
use Rattle.blif_device.specs.Edges.{first_held}

-- its netlist; for each net the value that was last driven on it; for each latch what it holds; for each net the value
-- that it tells; whether nothing was driven and no edge came since it was settled
pub record State : Type 0 where
  pub netlist : Parts
  pub driven : List Bit3
  pub held : List Bit3
  pub values : List Bit3
  pub settled : Bool

-- what the device tells is the one settled valuation
abbrev pub TellsSettled : State → Type 0
TellsSettled s = IsTheSettled s.netlist (valuation s.driven) s.held (valuation s.values)

-- nothing was driven, latches hold their first values, and it is settled
pub record IsNew (n : Parts) (s : State) : Type 0 where
  pub netlist : s.netlist ≡ n
  pub driven : s.driven ≡ replicate (length n.nets) X
  pub held : s.held ≡ first_held n
  pub settled : s.settled ≡ true
  pub values : TellsSettled s
