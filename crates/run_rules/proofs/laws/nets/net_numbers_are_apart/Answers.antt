use Rattle.run_rules.proofs.NetNumbers.{same_number}
use Rattle.run_rules.proofs.laws.nets.net_numbers_are_apart.Goals as goal

pub returns : goal.returns
returns c = same_number
