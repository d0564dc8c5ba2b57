use Rattle.run_rules.proofs.LinkedNets.{linked}
use Rattle.run_rules.proofs.laws.nets.linked_nets_are_there.Goals as goal

pub returns : goal.returns
returns c = linked
