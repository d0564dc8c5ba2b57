use Rattle.run_rules.proofs.Within.{within-run}
use Rattle.run_rules.proofs.laws.turns.within_limits.Goals as goal

pub returns-clause-cycles : goal.returns-clause-cycles
returns-clause-cycles g c = λ meaning design limits rest n. (within-run meaning design limits rest n).cycle

pub returns-clause-turns : goal.returns-clause-turns
returns-clause-turns g c = λ meaning design limits rest n. (within-run meaning design limits rest n).turns
