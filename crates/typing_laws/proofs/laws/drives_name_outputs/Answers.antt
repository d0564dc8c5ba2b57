use Rattle.typing_laws.proofs.laws.drives_name_outputs.Goals as goal
use Rattle.typing_laws.proofs.DriveItems.{names_its_signals}

pub returns : goal.returns
returns c = names_its_signals
