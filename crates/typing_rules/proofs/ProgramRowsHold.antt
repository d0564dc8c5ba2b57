use Rattle.std.proofs.Common.{refl}
use Rattle.typing_rules.proofs.Opened.{opened}
use Rattle.typing_rules.specs.ProgramRows.{program_rows}
use Rattle.typing_rules.specs.Told.{AllTold}

pub program_rows_hold : AllTold program_rows
unfolding opened
program_rows_hold = (refl, (refl, (refl, (refl, tt))))
