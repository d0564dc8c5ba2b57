use Rattle.vera_meaning.proofs.Taken.{test-spent, test-done}
use Rattle.vera_meaning.proofs.laws.while_loops.loop_goes_on_while_its_condition_holds.Goals as goal

pub returns-clause-spent : goal.returns-clause-spent
returns-clause-spent c = test-spent

pub returns-clause-tested : goal.returns-clause-tested
returns-clause-tested c = test-done
