use Rattle.typing_laws.proofs.laws.output_names_differ.Goals as goal
use Rattle.typing_laws.proofs.SignalsApart.{outputs_differ}

pub returns : goal.returns
returns c = outputs_differ
