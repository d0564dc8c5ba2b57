use Rattle.std.proofs.Common.{◌≡◌, length, take}
use Rattle.blif_device.specs.Valuations.{valuation}
use Rattle.run_rules.specs.Nets.{put_bits}
use Rattle.plain_run.proofs.outside.put.Given as goal

-- the bits so far are put, and nothing else changed
abbrev pub invariant-loop-at : goal.invariant-loop-at
invariant-loop-at l = record {
  netlist : l.device.netlist ≡ l.fn.device.netlist;
  held : l.device.held ≡ l.fn.device.held;
  size : length l.device.driven ≡ length l.fn.device.driven;
  driven : valuation l.device.driven ≡ put_bits (take l.at l.nets) (take l.at l.bits) (valuation l.fn.device.driven);
}
