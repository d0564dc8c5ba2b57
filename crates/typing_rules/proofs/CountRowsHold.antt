use Rattle.std.proofs.Common.{refl}
use Rattle.typing_rules.proofs.Opened.{opened}
use Rattle.typing_rules.specs.CountRows.{count_rows}
use Rattle.typing_rules.specs.Told.{AllTold}

pub count_rows_hold : AllTold count_rows
unfolding opened
count_rows_hold = (refl, (refl, (refl, (refl, (refl, (refl, (refl, (refl, (refl, (refl, (refl, (refl, (refl, (refl, (refl, (refl, (refl, (refl, (refl, (refl, (refl, (refl, (refl, (refl, (refl, (refl, (refl, tt)))))))))))))))))))))))))))
