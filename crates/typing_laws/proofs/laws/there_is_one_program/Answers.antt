use Rattle.typing_laws.proofs.laws.there_is_one_program.Goals as goal
use Rattle.typing_laws.proofs.OneProgram.{one_program_there}

pub returns : goal.returns
returns c = one_program_there
