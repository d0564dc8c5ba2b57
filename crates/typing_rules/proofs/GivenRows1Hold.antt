use Rattle.std.proofs.Common.{refl}
use Rattle.typing_rules.proofs.Opened.{opened}
use Rattle.typing_rules.specs.GivenRows1.{given_rows_1}
use Rattle.typing_rules.specs.Told.{AllTold}

pub given_rows_1_hold : AllTold given_rows_1
unfolding opened
given_rows_1_hold = (refl, (refl, (refl, (refl, (refl, (refl, (refl, (refl, (refl, (refl, (refl, (refl, (refl, (refl, (refl, (refl, (refl, (refl, (refl, (refl, (refl, tt)))))))))))))))))))))
