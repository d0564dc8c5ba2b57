use Rattle.vera_meaning.specs.Statements.{size_of}
use Rattle.plain_run.specs.Work.{agenda_of}
use Rattle.plain_run.specs.Going.{Finds}
use Rattle.plain_run.proofs.evaluate.work.next_timed.Given as goal

abbrev pub invariant-loop-work : goal.invariant-loop-work
invariant-loop-work l = Finds (agenda_of l.initial.agenda.items) (agenda_of l.agenda.items)

abbrev pub decreases-loop-work : goal.decreases-loop-work
decreases-loop-work l = size_of (agenda_of l.agenda.items)
