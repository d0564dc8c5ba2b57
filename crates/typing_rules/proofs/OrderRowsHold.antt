use Rattle.std.proofs.Common.{refl}
use Rattle.typing_rules.proofs.Opened.{opened}
use Rattle.typing_rules.specs.OrderRows.{order_rows}
use Rattle.typing_rules.specs.Told.{AllTold}

pub order_rows_hold : AllTold order_rows
unfolding opened
order_rows_hold = (refl, (refl, (refl, (refl, (refl, (refl, (refl, (refl, (refl, (refl, (refl, (refl, (refl, tt)))))))))))))
