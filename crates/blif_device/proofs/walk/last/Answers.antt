use Rattle.std.proofs.Common.{◌≡◌, ◌-◌, length, arith, get_or}
use Rattle.std.proofs.lemmas.Grind.{common_steps}
use Rattle.blif_device.specs.Sources.{table_reads}
use Rattle.blif_device.proofs.Stepping.{path_below}
use Rattle.blif_device.proofs.walk.last.Goals as goal

pub returns-clause-below : goal.returns-clause-below
returns-clause-below c =
    let w = c.args.walk.now in
    let at : get_or w.path.items (length w.path.items - 1) 0 ≡ c.index.result.now = grind (arith, common_steps) in
    path_below (table_reads c.args.covers.now c.args.sources.now) _ w.marks.items w.left.items w.path.items w.order.items _ c.index.result.now c.requires.walk (omega arith) at
