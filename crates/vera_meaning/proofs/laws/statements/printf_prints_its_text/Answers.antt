use Rattle.vera_meaning.proofs.Taken.{printf-spent, printf-done}
use Rattle.vera_meaning.proofs.laws.statements.printf_prints_its_text.Goals as goal

pub returns-clause-spent : goal.returns-clause-spent
returns-clause-spent c = printf-spent

pub returns-clause-done : goal.returns-clause-done
returns-clause-done c = printf-done
