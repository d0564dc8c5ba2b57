use Rattle.vera_names.proofs.Answering.{answered_is}
use Rattle.vera_steps.proofs.drives.named.Goals as goal

pub returns : goal.returns
returns c = answered_is _ _ c.name.ensures
