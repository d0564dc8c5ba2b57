use Rattle.std.proofs.Common.{refl}
use Rattle.typing_rules.proofs.Opened.{opened}
use Rattle.typing_rules.specs.TwiceRows.{twice_rows}
use Rattle.typing_rules.specs.Told.{AllTold}

pub twice_rows_hold : AllTold twice_rows
unfolding opened
twice_rows_hold = (refl, (refl, (refl, (refl, (refl, (refl, (refl, (refl, (refl, (refl, (refl, (refl, (refl, (refl, (refl, (refl, (refl, tt)))))))))))))))))
