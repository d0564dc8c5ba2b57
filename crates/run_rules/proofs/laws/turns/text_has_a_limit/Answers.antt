use Rattle.run_rules.proofs.TextLimit.{text-fault, text-same, text-ended}
use Rattle.run_rules.proofs.laws.turns.text_has_a_limit.Goals as goal

pub returns-clause-fault : goal.returns-clause-fault
returns-clause-fault g c = text-fault

pub returns-clause-same : goal.returns-clause-same
returns-clause-same g c = text-same

pub returns-clause-ended : goal.returns-clause-ended
returns-clause-ended g c = text-ended
