use Rattle.vera_names.proofs.NameSets.{one_later}
use Rattle.vera_names.proofs.name_sets.name_later.Goals as goal

pub returns : goal.returns
returns c = one_later _ _ _ c.new.ensures c.with.ensures
