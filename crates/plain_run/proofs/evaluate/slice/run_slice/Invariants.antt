use Rattle.slice_core.specs.Walks.{walked}
use Rattle.vera_meaning.specs.Slices.{slice_of}
use Rattle.plain_run.specs.Work.{agenda_of}
use Rattle.plain_run.specs.Going.{IsAt}
use Rattle.plain_run.specs.Logs.{told}
use Rattle.plain_run.specs.Values.{contents_of}
use Rattle.plain_run.proofs.evaluate.slice.run_slice.Given as goal

abbrev pub invariant-loop-found : goal.invariant-loop-found
invariant-loop-found l =
    IsAt (record { thread = 1; cycle = l.fn.cycle }) (walked (slice_of (record { thread = 1; cycle = l.fn.cycle }) (record { agenda = agenda_of l.fn.agenda.items }) l.fn.budget) (contents_of l.fn.values)) (told l.fn.log) (told l.log) (agenda_of l.agenda.items) l.ticks (contents_of l.values)

abbrev pub decreases-loop-found : goal.decreases-loop-found
decreases-loop-found l = l.ticks
