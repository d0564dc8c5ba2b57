use Rattle.typing_rules.proofs.laws.worked_sources_are_told.Goals as goal
use Rattle.typing_rules.proofs.WorkedRowsHold.{worked_rows_hold}

pub returns : goal.returns
returns c = worked_rows_hold
