use Rattle.std.proofs.Common.{◌≡◌}
use Rattle.blif_read.specs.Reading.{parts_of}
use Rattle.netlist_tests.proofs.devices.drive_all.Given as goal

abbrev pub invariant-loop-place : goal.invariant-loop-place
invariant-loop-place l = l.device.netlist ≡ parts_of l.netlist
