use Rattle.std.proofs.Common.{refl}
use Rattle.typing_rules.proofs.Opened.{opened}
use Rattle.typing_rules.specs.GivenRows2.{given_rows_2}
use Rattle.typing_rules.specs.Told.{AllTold}

pub given_rows_2_hold : AllTold given_rows_2
unfolding opened
given_rows_2_hold = (refl, (refl, (refl, (refl, (refl, (refl, (refl, (refl, (refl, (refl, (refl, (refl, (refl, (refl, (refl, (refl, (refl, (refl, (refl, tt)))))))))))))))))))
