use Rattle.std.proofs.Common.{◌≡◌, ℕ, ◌<◌, get_or}
use Rattle.four_state.specs.declared.bit.Bit3.TheVariants.{X}
use Rattle.blif_read.specs.declared.netlist.Latch.{Latch}
use Rattle.blif_device.specs.Valuations.{valuation}
use Rattle.blif_device.proofs.latches.take_inputs.Given as goal

abbrev pub invariant-loop-index : goal.invariant-loop-index
invariant-loop-index l = (j : ℕ) (d : Latch) → j < l.index → get_or l.held j X ≡ valuation l.values (get_or l.latches j d).input
