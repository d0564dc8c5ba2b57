use Rattle.std.proofs.Common.{◌≡◌}
use Rattle.blif_read.specs.Reading.{parts_of}
use Rattle.netlist_tests.proofs.devices.after.Given as goal

abbrev pub invariant-loop-word : goal.invariant-loop-word
invariant-loop-word l = l.device.netlist ≡ parts_of l.netlist
