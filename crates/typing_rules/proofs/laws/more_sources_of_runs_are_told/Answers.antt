use Rattle.typing_rules.proofs.laws.more_sources_of_runs_are_told.Goals as goal
use Rattle.typing_rules.proofs.GivenRows2Hold.{given_rows_2_hold}

pub returns : goal.returns
returns c = given_rows_2_hold
