use Rattle.typing_rules.proofs.laws.wrong_types_are_told_3.Goals as goal
use Rattle.typing_rules.proofs.TypeRows3Hold.{type_rows3_hold}

pub returns : goal.returns
returns c = type_rows3_hold
