use Rattle.blif_device.specs.Valuations.{valuation}
use Rattle.run_rules.specs.Designs.{on_nets}
use Rattle.plain_run.specs.Values.{contents_of}
use Rattle.plain_run.proofs.Beginning.{Sampled}
use Rattle.plain_run.proofs.outside.Outside.next_cycle.Given as goal

abbrev pub invariant-loop-signal : goal.invariant-loop-signal
invariant-loop-signal l = Sampled l.nets (on_nets l.self.count (valuation l.self.device.values)) l.signal (contents_of l.fn.values) (contents_of l.values)
