use Rattle.run_rules.proofs.DrivenNets.{driving_bit, driving_away}
use Rattle.run_rules.proofs.laws.nets.driving_gives_each_net_its_bit.Goals as goal

pub returns-clause-bit : goal.returns-clause-bit
returns-clause-bit c = driving_bit

pub returns-clause-other : goal.returns-clause-other
returns-clause-other c = driving_away
