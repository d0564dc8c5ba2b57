use Rattle.slice_core.proofs.Asked.{on-asked, on-notes}
use Rattle.slice_core.proofs.laws.noted_are_asked.Goals as goal

pub returns-clause-noted : goal.returns-clause-noted
returns-clause-noted g c = on-asked

pub returns-clause-asked : goal.returns-clause-asked
returns-clause-asked g c = on-notes
