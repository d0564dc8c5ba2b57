use Rattle.vera_names.proofs.NameSets.{one_more_name}
use Rattle.vera_names.proofs.name_sets.with_name.Goals as goal

pub returns : goal.returns
returns c = one_more_name _ _ _ c.with.ensures
