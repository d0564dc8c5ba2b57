use Rattle.slice_core.proofs.Walked.{walked_same}
use Rattle.slice_core.proofs.laws.contents_after.Goals as goal

pub returns : goal.returns
returns g c = walked_same
