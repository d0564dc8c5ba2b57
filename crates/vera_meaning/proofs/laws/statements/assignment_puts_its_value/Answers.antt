use Rattle.vera_meaning.proofs.Taken.{step-spent, step-done}
use Rattle.vera_meaning.proofs.laws.statements.assignment_puts_its_value.Goals as goal

pub returns-clause-spent : goal.returns-clause-spent
returns-clause-spent c = step-spent

pub returns-clause-done : goal.returns-clause-done
returns-clause-done c = step-done
