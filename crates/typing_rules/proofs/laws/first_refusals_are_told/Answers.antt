use Rattle.typing_rules.proofs.laws.first_refusals_are_told.Goals as goal
use Rattle.typing_rules.proofs.OrderRowsHold.{order_rows_hold}

pub returns : goal.returns
returns c = order_rows_hold
