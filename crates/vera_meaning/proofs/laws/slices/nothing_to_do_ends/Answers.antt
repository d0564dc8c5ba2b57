use Rattle.vera_meaning.proofs.Taken.{slice_of-nothing}
use Rattle.vera_meaning.proofs.laws.slices.nothing_to_do_ends.Goals as goal

pub returns : goal.returns
returns c = slice_of-nothing
