use Rattle.typing_rules.proofs.laws.sources_of_runs_are_told.Goals as goal
use Rattle.typing_rules.proofs.GivenRows1Hold.{given_rows_1_hold}

pub returns : goal.returns
returns c = given_rows_1_hold
