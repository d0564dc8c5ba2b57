use Rattle.typing_rules.proofs.laws.wrong_types_are_told_4.Goals as goal
use Rattle.typing_rules.proofs.TypeRows4Hold.{type_rows4_hold}

pub returns : goal.returns
returns c = type_rows4_hold
