use Rattle.typing_rules.proofs.laws.unknown_names_are_told.Goals as goal
use Rattle.typing_rules.proofs.NameRowsHold.{name_rows_hold}

pub returns : goal.returns
returns c = name_rows_hold
