use Rattle.run_rules.proofs.DrivenNets.{undriven}
use Rattle.run_rules.proofs.laws.nets.undriven_nets_are_x.Goals as goal

pub returns : goal.returns
returns c = undriven
