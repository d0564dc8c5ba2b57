use Rattle.typing_rules.proofs.laws.typed_trees_are_those.Goals as goal
use Rattle.typing_rules.proofs.TreeRowsHold.{tree_rows_hold}

pub returns : goal.returns
returns c = tree_rows_hold
