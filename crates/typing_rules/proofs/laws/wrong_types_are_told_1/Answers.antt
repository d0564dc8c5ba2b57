use Rattle.typing_rules.proofs.laws.wrong_types_are_told_1.Goals as goal
use Rattle.typing_rules.proofs.TypeRows1Hold.{type_rows1_hold}

pub returns : goal.returns
returns c = type_rows1_hold
