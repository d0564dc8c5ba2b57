use Rattle.std.proofs.Common.{◌≡◌, ◌≤◌, ◌++◌, map, length, drop}
use Rattle.vera_meaning.specs.Rests.{Do}
use Rattle.plain_run.specs.Work.{agenda_of}
use Rattle.plain_run.proofs.evaluate.work.push_all.Given as goal

abbrev pub invariant-loop-left : goal.invariant-loop-left
invariant-loop-left l = record {
  within : l.left ≤ length l.stmts;
  pushed : agenda_of l.agenda.items ≡ map Do (drop l.left l.stmts) ++ agenda_of l.initial.agenda.items;
}

abbrev pub decreases-loop-left : goal.decreases-loop-left
decreases-loop-left l = l.left
