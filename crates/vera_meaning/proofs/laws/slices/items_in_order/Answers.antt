use Rattle.vera_meaning.proofs.Bounds.{slice_of-item}
use Rattle.vera_meaning.proofs.laws.slices.items_in_order.Goals as goal

pub returns : goal.returns
returns c = slice_of-item
