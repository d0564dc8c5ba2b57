use Rattle.std.proofs.Common.{refl}
use Rattle.typing_rules.proofs.Opened.{opened}
use Rattle.typing_rules.specs.TreeRows.{tree_rows}
use Rattle.typing_rules.specs.Told.{AllTyped}

pub tree_rows_hold : AllTyped tree_rows
unfolding opened
tree_rows_hold = (refl, (refl, (refl, (refl, (refl, (refl, tt))))))
