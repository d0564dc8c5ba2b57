use Rattle.typing_rules.proofs.laws.wrong_counts_are_told.Goals as goal
use Rattle.typing_rules.proofs.CountRowsHold.{count_rows_hold}

pub returns : goal.returns
returns c = count_rows_hold
