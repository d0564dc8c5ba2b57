use Rattle.run_rules.proofs.Numbers.{number_of-own}
use Rattle.run_rules.proofs.laws.statuses.each_status_has_its_own_number.Goals as goal

pub returns : goal.returns
returns c = number_of-own
