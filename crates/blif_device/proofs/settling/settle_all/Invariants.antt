use Rattle.std.proofs.Common.{◌≡◌, take}
use Rattle.blif_device.specs.Valuations.{valuation}
use Rattle.blif_device.specs.Passes.{pass_over}
use Rattle.blif_device.proofs.settling.settle_all.Given as goal

abbrev pub invariant-loop-net : goal.invariant-loop-net
invariant-loop-net l = l.values.items ≡ pass_over l.covers l.sources (valuation l.driven) l.held l.fn.values.items (take l.net-index l.order)
