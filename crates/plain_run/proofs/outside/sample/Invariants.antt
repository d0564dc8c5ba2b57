use Rattle.std.proofs.Common.{◌≡◌, take}
use Rattle.blif_device.specs.Valuations.{valuation}
use Rattle.run_rules.specs.Designs.{on_nets}
use Rattle.run_rules.specs.Nets.{bits_of}
use Rattle.plain_run.proofs.outside.sample.Given as goal

abbrev pub invariant-loop-at : goal.invariant-loop-at
invariant-loop-at l = l.bits ≡ bits_of (on_nets l.count (valuation l.device.values)) (take l.at l.nets)
