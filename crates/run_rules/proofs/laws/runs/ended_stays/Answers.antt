use Rattle.run_rules.proofs.Ended.{move-ended, run-ended}
use Rattle.run_rules.proofs.laws.runs.ended_stays.Goals as goal

pub returns-clause-once : goal.returns-clause-once
returns-clause-once g c = move-ended

pub returns-clause-ever : goal.returns-clause-ever
returns-clause-ever g c = run-ended
