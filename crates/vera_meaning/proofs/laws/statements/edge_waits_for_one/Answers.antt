use Rattle.vera_meaning.proofs.Taken.{edge-spent, edge-waits}
use Rattle.vera_meaning.proofs.laws.statements.edge_waits_for_one.Goals as goal

pub returns-clause-spent : goal.returns-clause-spent
returns-clause-spent c = edge-spent

pub returns-clause-waits : goal.returns-clause-waits
returns-clause-waits c = edge-waits
