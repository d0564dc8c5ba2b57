use Rattle.typing_rules.proofs.laws.wrong_types_are_told_2.Goals as goal
use Rattle.typing_rules.proofs.TypeRows2Hold.{type_rows2_hold}

pub returns : goal.returns
returns c = type_rows2_hold
