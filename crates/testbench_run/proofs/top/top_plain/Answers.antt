use Rattle.std.proofs.Common.{map}
use Rattle.run_words.specs.Words.{request_of}
use Rattle.testbench_run.proofs.Causes.{due_caused, read_fault_rose, no_write_fault, no_want_of_memory}
use Rattle.testbench_run.proofs.top.top_plain.Goals as goal

pub returns-in-Ok-write_all-clause-read_fault : goal.returns-in-Ok-write_all-clause-read_fault
returns-in-Ok-write_all-clause-read_fault g c =
    let request = request_of (map (λ word. word.now) c.args.words.now) in
    let old = g.S.Shelf.faults_of c.args.shelf.now in
    let new = g.S.Shelf.faults_of c.answer_to.new.shelf in
    read_fault_rose request old new c.in-Ok.answer (due_caused request _ old new c.in-Ok.answer c.in-Ok.ensures.due)

pub returns-in-Ok-write_all-clause-write_fault : goal.returns-in-Ok-write_all-clause-write_fault
returns-in-Ok-write_all-clause-write_fault g c =
    let request = request_of (map (λ word. word.now) c.args.words.now) in
    let old = g.S.Shelf.faults_of c.args.shelf.now in
    let new = g.S.Shelf.faults_of c.answer_to.new.shelf in
    λ e. absurd (no_write_fault request old new c.in-Ok.answer (due_caused request _ old new c.in-Ok.answer c.in-Ok.ensures.due) e)

pub returns-in-Ok-write_all-clause-no_memory : goal.returns-in-Ok-write_all-clause-no_memory
returns-in-Ok-write_all-clause-no_memory g c =
    let request = request_of (map (λ word. word.now) c.args.words.now) in
    let old = g.S.Shelf.faults_of c.args.shelf.now in
    let new = g.S.Shelf.faults_of c.answer_to.new.shelf in
    λ e. absurd (no_want_of_memory request old new c.in-Ok.answer (due_caused request _ old new c.in-Ok.answer c.in-Ok.ensures.due) e)
