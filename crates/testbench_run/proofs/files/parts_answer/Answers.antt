use Rattle.std.proofs.lemmas.Result.{IfOk-weaker}
use Rattle.blif_read.specs.Reading.{parts_of}
use Rattle.testbench_run.proofs.Ringed.{loop_is, names_below, ring_gives}
use Rattle.testbench_run.proofs.files.parts_answer.Goals as goal

pub bounds-as_slice-net : goal.bounds-as_slice-net
bounds-as_slice-net c =
    let first = loop_is (parts_of c.args.netlist.now) c.in-Err-Loop.field-0 _ _ c.in-Err-Loop.field-0-is c.in-Err-Loop.net-is c.in-Err-Loop.ensures in
    names_below (parts_of c.args.netlist.now) _ _ c.as_slice.ensures c.args.netlist.now.valid first.on_ring

pub returns-in-Err-Loop : goal.returns-in-Err-Loop
returns-in-Err-Loop c =
    let first = loop_is (parts_of c.args.netlist.now) c.in-Err-Loop.field-0 _ _ c.in-Err-Loop.field-0-is c.in-Err-Loop.net-is c.in-Err-Loop.ensures in
    let below = names_below (parts_of c.args.netlist.now) _ _ c.as_slice.ensures c.args.netlist.now.valid first.on_ring in
    IfOk-weaker c.ring_refusal.result _ _
    (λ answer told. ring_gives c.args.mode c.args.limits c.args.tree.now (parts_of c.args.netlist.now) _ c.as_slice.result.now c.index-as_slice-net.result c.as_slice-in-Err-Loop.result.now answer first c.as_slice.ensures below c.index-as_slice-net.is c.as_slice-in-Err-Loop.ensures told)
    c.ring_refusal.ensures
