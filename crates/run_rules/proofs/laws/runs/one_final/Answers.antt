use Rattle.run_rules.proofs.Ended.{final-state, final-end}
use Rattle.run_rules.proofs.laws.runs.one_final.Goals as goal

pub returns-clause-state : goal.returns-clause-state
returns-clause-state g c = final-state

pub returns-clause-end : goal.returns-clause-end
returns-clause-end g c = final-end
