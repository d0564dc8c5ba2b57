use Rattle.typing_rules.proofs.laws.passed_limits_are_told.Goals as goal
use Rattle.typing_rules.proofs.LimitRowsHold.{limit_rows_hold}

pub returns : goal.returns
returns c = limit_rows_hold
