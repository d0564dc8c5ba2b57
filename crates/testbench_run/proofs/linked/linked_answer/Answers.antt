use Rattle.std.proofs.Common.{inl}
use Rattle.std.proofs.lemmas.Result.{IfOk-weaker}
use Rattle.vera_ast.specs.Signals.{signals_in}
use Rattle.blif_read.specs.Reading.{parts_of}
use Rattle.testbench_run.proofs.Designed.{unlinked_is}
use Rattle.testbench_run.proofs.linked.linked_answer.Goals as goal

pub unlinked_answer-requires : goal.unlinked_answer-requires
unlinked_answer-requires c =
    let first = unlinked_is (parts_of c.args.netlist.now) (signals_in c.args.tree.now.items) c.in-Err-Unlinked.field-0 _ _ c.in-Err-Unlinked.field-0-is c.in-Err-Unlinked.number-is c.in-Err-Unlinked.ensures.unlinked in
    (first.0, first.1.is)

pub returns-in-Err-Unlinked : goal.returns-in-Err-Unlinked
returns-in-Err-Unlinked c =
    let first = unlinked_is (parts_of c.args.netlist.now) (signals_in c.args.tree.now.items) c.in-Err-Unlinked.field-0 _ _ c.in-Err-Unlinked.field-0-is c.in-Err-Unlinked.number-is c.in-Err-Unlinked.ensures.unlinked in
    IfOk-weaker c.unlinked_answer.result _ _
    (λ answer h. inl (record { number = _; signal = first.0; first = first.1; is = h first.0 first.1.is }))
    c.unlinked_answer.ensures
