use Rattle.std.proofs.Common.{refl}
use Rattle.typing_rules.proofs.Opened.{opened}
use Rattle.typing_rules.specs.LimitRows.{limit_rows}
use Rattle.typing_rules.specs.Told.{AllTold}

pub limit_rows_hold : AllTold limit_rows
unfolding opened
limit_rows_hold = (refl, (refl, (refl, (refl, (refl, (refl, (refl, (refl, (refl, (refl, (refl, (refl, (refl, (refl, (refl, (refl, (refl, tt)))))))))))))))))
