use Rattle.run_rules.proofs.PutBits.{put_last}
use Rattle.run_rules.proofs.laws.nets.bits_are_put_in_order.Goals as goal

pub returns-clause-more : goal.returns-clause-more
returns-clause-more c = put_last
