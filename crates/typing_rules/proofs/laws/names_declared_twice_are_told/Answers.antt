use Rattle.typing_rules.proofs.laws.names_declared_twice_are_told.Goals as goal
use Rattle.typing_rules.proofs.TwiceRowsHold.{twice_rows_hold}

pub returns : goal.returns
returns c = twice_rows_hold
