-- What latches hold at first and after an edge.
use Rattle.std.specs.Prelude.{ℕ, ◌==◌, List, map, if◌then◌else◌}
use Rattle.four_state.specs.declared.bit.Bit3.{Bit3}
use Rattle.four_state.specs.declared.bit.Bit3.TheVariants.{Zero, One, X}
use Rattle.blif_read.specs.Netlists.{Parts}
use Rattle.blif_device.specs.Valuations.{Valuation}

-- 0 and 1 are themselves, 2 and 3 are x
abbrev pub first_value : ℕ → Bit3
first_value init = if init == 0 then Zero else (if init == 1 then One else X)

abbrev pub first_held : Parts → List Bit3
first_held n = map (λ l. first_value l.init) n.latches

-- each latch's input
abbrev pub held_after : Parts → Valuation → List Bit3
held_after n v = map (λ l. v l.input) n.latches
