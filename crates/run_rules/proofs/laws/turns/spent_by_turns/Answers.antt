use Rattle.run_rules.proofs.TurnLimit.{limited-spent, limited-spends, limited-same}
use Rattle.std.proofs.Common.{ap}
use Rattle.run_rules.specs.States.{State}
use Rattle.run_rules.proofs.laws.turns.spent_by_turns.Goals as goal

pub returns-clause-spent : goal.returns-clause-spent
returns-clause-spent g c = λ limits s still. (limited-spent limits s still, λ h. ap (λ (x : State _). x.ended) (limited-spends limits s still h))

pub returns-clause-only : goal.returns-clause-only
returns-clause-only g c = limited-spends

pub returns-clause-same : goal.returns-clause-same
returns-clause-same g c = limited-same
