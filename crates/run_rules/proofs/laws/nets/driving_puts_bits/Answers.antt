use Rattle.run_rules.proofs.DrivenNets.{driving_all, driving_there}
use Rattle.run_rules.proofs.laws.nets.driving_puts_bits.Goals as goal

pub returns-clause-nets : goal.returns-clause-nets
returns-clause-nets c = driving_all

pub returns-clause-there : goal.returns-clause-there
returns-clause-there c = driving_there
