use Rattle.run_rules.proofs.Whole.{run_ends}
use Rattle.run_rules.proofs.laws.runs.every_run_ends.Goals as goal

pub returns : goal.returns
returns g c = run_ends
