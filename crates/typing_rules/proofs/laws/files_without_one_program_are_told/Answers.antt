use Rattle.typing_rules.proofs.laws.files_without_one_program_are_told.Goals as goal
use Rattle.typing_rules.proofs.ProgramRowsHold.{program_rows_hold}

pub returns : goal.returns
returns c = program_rows_hold
