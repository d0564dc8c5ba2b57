use Rattle.vera_meaning.proofs.Taken.{while-spent, while-begun}
use Rattle.vera_meaning.proofs.laws.while_loops.loop_begins_with_its_test.Goals as goal

pub returns-clause-spent : goal.returns-clause-spent
returns-clause-spent c = while-spent

pub returns-clause-begun : goal.returns-clause-begun
returns-clause-begun c = while-begun
