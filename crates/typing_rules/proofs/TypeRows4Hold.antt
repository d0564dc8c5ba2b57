use Rattle.std.proofs.Common.{refl}
use Rattle.typing_rules.proofs.Opened.{opened}
use Rattle.typing_rules.specs.TypeRows4.{type_rows4}
use Rattle.typing_rules.specs.Told.{AllTold}

pub type_rows4_hold : AllTold type_rows4
unfolding opened
type_rows4_hold = (refl, (refl, (refl, (refl, (refl, (refl, (refl, (refl, (refl, (refl, (refl, (refl, (refl, (refl, (refl, (refl, (refl, (refl, (refl, (refl, (refl, (refl, (refl, (refl, (refl, (refl, (refl, (refl, (refl, (refl, tt))))))))))))))))))))))))))))))
