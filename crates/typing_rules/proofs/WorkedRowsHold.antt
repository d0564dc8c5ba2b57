use Rattle.std.proofs.Common.{refl}
use Rattle.typing_rules.proofs.Opened.{opened}
use Rattle.typing_rules.specs.WorkedRows.{worked_rows}
use Rattle.typing_rules.specs.Told.{AllTold}

pub worked_rows_hold : AllTold worked_rows
unfolding opened
worked_rows_hold = (refl, (refl, (refl, (refl, (refl, (refl, (refl, (refl, (refl, (refl, (refl, (refl, (refl, (refl, tt))))))))))))))
