use Rattle.std.proofs.Common.{ℕ, List, Option, Bor, sym, subst}
use Rattle.std.specs.Prelude.{IfOk, option_map, codes}
use Rattle.std.proofs.lemmas.Result.{IfOk-weaker}
use Rattle.testbench_run.specs.Readings.{IsDueBehind}
use Rattle.testbench_run.proofs.Dues.{read_bytes, behind_bytes}
use Rattle.testbench_run.proofs.answering.behind_testbench.Goals as goal

pub returns-in-Bytes-clause-due : goal.returns-in-Bytes-clause-due
returns-in-Bytes-clause-due g c =
    let told = g.S.Shelf.bytes_of c.args.shelf.now in
    let old = g.S.Shelf.faults_of c.args.shelf.now in
    let new = g.S.Shelf.faults_of c.read_file.new.shelf in
    let read = read_bytes c.in-Some.name.now (codes "netlist") told old new c.in_ok-answer-in-Some.field-0 c.in-Bytes.netlist c.in-Bytes.is c.in_ok-answer-in-Some.ensures.read in
    subst (λ (o : Option (Bor (List ℕ))). IfOk c.files_answer-in-Bytes.result (IsDueBehind (option_map (λ name. name.now) o) c.args.mode c.args.limits c.args.source.now told old new))
    (sym c.in-Some.is)
    (IfOk-weaker c.files_answer-in-Bytes.result _ _
    (λ answer h. behind_bytes c.in-Some.name.now c.args.mode c.args.limits c.args.source.now told old new c.in-Bytes.netlist.items c.as_slice.result.now answer c.as_slice.ensures.value read h)
    c.files_answer-in-Bytes.ensures)
