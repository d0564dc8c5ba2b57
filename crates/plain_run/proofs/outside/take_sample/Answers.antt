use Rattle.std.proofs.Common.{sym, ap, if◌then◌else◌}
use Rattle.blif_device.specs.Valuations.{valuation}
use Rattle.run_rules.specs.Designs.{on_nets}
use Rattle.run_rules.specs.Nets.{bits_of}
use Rattle.store_api.specs.declared.loc.Loc.TheVariants.{Sample}
use Rattle.store_api.specs.declared.val.Val.TheVariants.{Bits}
use Rattle.slice_core.specs.Walks.{put_at}
use Rattle.plain_run.specs.Values.{contents_of}
use Rattle.plain_run.proofs.outside.take_sample.Goals as goal

pub returns-then-nets : goal.returns-then-nets
returns-then-nets c =
    let before = contents_of c.args.values.now in
    ap (λ t. if t then before else put_at before (Sample c.args.signal) (Bits (bits_of (on_nets c.args.count (valuation c.args.device.now.values)) c.args.nets.now.nets))) (sym c.if-nets.true)
