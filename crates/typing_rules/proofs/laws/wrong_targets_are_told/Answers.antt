use Rattle.typing_rules.proofs.laws.wrong_targets_are_told.Goals as goal
use Rattle.typing_rules.proofs.AssignRowsHold.{assign_rows_hold}

pub returns : goal.returns
returns c = assign_rows_hold
