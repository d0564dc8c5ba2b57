use Rattle.std.specs.Prelude.{codes}
use Rattle.std.proofs.lemmas.Result.{IfOk-weaker}
use Rattle.run_words.specs.Views.{seen_request}
use Rattle.testbench_run.proofs.Dues.{read_refused, read_bytes, due_refused, due_behind}
use Rattle.testbench_run.proofs.answering.request_answer.Goals as goal

pub returns-in-Refused-clause-due : goal.returns-in-Refused-clause-due
returns-in-Refused-clause-due g c =
    let request = seen_request c.args.request.now in
    let told = g.S.Shelf.bytes_of c.args.shelf.now in
    let old = g.S.Shelf.faults_of c.args.shelf.now in
    let new = g.S.Shelf.faults_of c.read_file.new.shelf in
    due_refused request told old new c.in-Refused.answer
    (read_refused request.testbench (codes "testbench") told old new c.in_ok-answer.field-0 c.in-Refused.answer c.in-Refused.is c.in_ok-answer.ensures.read)

pub returns-in-Bytes-clause-due : goal.returns-in-Bytes-clause-due
returns-in-Bytes-clause-due g c =
    let request = seen_request c.args.request.now in
    let told = g.S.Shelf.bytes_of c.args.shelf.now in
    let later = g.S.Shelf.bytes_of c.read_file.new.shelf in
    let old = g.S.Shelf.faults_of c.args.shelf.now in
    let mid = g.S.Shelf.faults_of c.read_file.new.shelf in
    let new = g.S.Shelf.faults_of c.behind_testbench.new.shelf in
    let read = read_bytes request.testbench (codes "testbench") told old mid c.in_ok-answer.field-0 c.in-Bytes.source c.in-Bytes.is c.in_ok-answer.ensures.read in
    IfOk-weaker c.behind_testbench.result _ _
    (λ answer h. due_behind request told later old mid new c.in-Bytes.source.items c.as_slice.result.now answer c.as_slice.ensures.value read c.in_ok-answer.ensures.kept c.in_ok-answer.ensures.counts h)
    c.behind_testbench.ensures.due
