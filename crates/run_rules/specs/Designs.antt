-- What a run knows of its netlist and of the signals.
use Rattle.std.specs.Prelude.{◌≡◌, ℕ, nat_lt, List, length, if◌then◌else◌}
use Rattle.four_state.specs.declared.bit.Bit3.{Bit3}
use Rattle.four_state.specs.declared.bit.Bit3.TheVariants.{X}
use Rattle.blif_read.specs.Netlists.{Parts}
use Rattle.blif_device.specs.Settled.{IsSettled}
use Rattle.blif_device.specs.Valuations.{Valuation}
use Rattle.vera_ast.specs.Signals.{NamedSignal}

-- a settled valuation, by the driven values of the inputs and by what the latches hold
abbrev pub Settle : Type 0
Settle = (driven : Valuation) (held : List Bit3) → Valuation

abbrev pub Settles : Parts → Settle → Type 0
Settles netlist settle = (driven : Valuation) (held : List Bit3) → length held ≡ length netlist.latches → IsSettled netlist driven held (settle driven held)

pub record Design : Type 0 where
  pub netlist : Parts
  pub settle : Settle
  pub signals : List NamedSignal

-- a net that the netlist doesn't have is x
abbrev pub on_nets : ℕ → Valuation → Valuation
on_nets count v net = if nat_lt net count then v net else X

-- the value of each net, by what is driven and held
abbrev pub settled_nets : Design → Valuation → List Bit3 → Valuation
settled_nets design driven held = on_nets (length design.netlist.nets) (design.settle driven held)
