use Rattle.typing_rules.proofs.laws.wrong_stands_are_told.Goals as goal
use Rattle.typing_rules.proofs.StandRowsHold.{stand_rows_hold}

pub returns : goal.returns
returns c = stand_rows_hold
