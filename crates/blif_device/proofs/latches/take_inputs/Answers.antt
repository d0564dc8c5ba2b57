use Rattle.std.proofs.Common.{arith}
use Rattle.blif_device.specs.Valuations.{valuation}
use Rattle.blif_device.proofs.Values.{latches_all}
use Rattle.blif_device.proofs.latches.take_inputs.Goals as goal

pub returns : goal.returns
returns c = latches_all (valuation c.args.values.now) c.loop-index.held c.args.latches.now (omega arith) (λ j d lt. c.loop-index.invariant j d (omega arith))
