use Rattle.vera_meaning.proofs.Taken.{drive-spent, drive-done}
use Rattle.vera_meaning.proofs.laws.statements.drive_is_due_in_its_cycle.Goals as goal

pub returns-clause-spent : goal.returns-clause-spent
returns-clause-spent c = drive-spent

pub returns-clause-done : goal.returns-clause-done
returns-clause-done c = drive-done
