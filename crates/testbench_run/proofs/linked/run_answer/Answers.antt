use Rattle.std.proofs.Common.{◌∙◌, ap}
use Rattle.vera_ast.specs.Signals.{signals_in}
use Rattle.blif_read.specs.Reading.{parts_of}
use Rattle.run_rules.specs.Reports.{report_text}
use Rattle.testbench_run.proofs.Designed.{can_run, run_gives}
use Rattle.testbench_run.proofs.linked.run_answer.Goals as goal

pub run-requires-clause-run : goal.run-requires-clause-run
run-requires-clause-run c =
    can_run c.args.tree.now (parts_of c.args.netlist.now) c.program_of-program.result.now c.args.nets.now c.len.result c.args.device c.requires.tree c.requires.device c.program_of-program.ensures c.args.netlist.now.valid c.requires.linked c.requires.nets c.len.ensures

pub returns : goal.returns
returns c =
    let told = c.in_ok-told.told in
    let text = c.in_ok-text.ensures (signals_in c.args.tree.now.items) (c.as_slice.ensures ∙ c.in_ok-names.ensures) in
    run_gives c.args.limits c.args.tree.now (parts_of c.args.netlist.now) c.program_of-program.result.now c.args.nets.now c.len.result c.args.device told c.status_of.result c.of.result c.requires.tree c.requires.device c.program_of-program.ensures c.args.netlist.now.valid c.requires.linked c.requires.nets c.len.ensures c.in_ok-told.ensures c.status_of.ensures
    (c.of.ensures
    ∙ (text
    ∙ (ap (λ ps. report_text (signals_in c.args.tree.now.items) ps c.as_slice-3.result.now told.end told.cycle) c.as_slice-2.ensures.value
    ∙ ap (λ ds. report_text (signals_in c.args.tree.now.items) told.printed.items ds told.end told.cycle) c.as_slice-3.ensures.value)))
