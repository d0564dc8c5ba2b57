use Rattle.blif_read.proofs.Indexed.{index_new}
use Rattle.blif_read.proofs.nets.Nets.new.Goals as goal

pub returns-clause-index : goal.returns-clause-index
returns-clause-index c = index_new _ c.new.ensures.items c.new-2.ensures.empty
