use Rattle.typing_laws.proofs.laws.signals_are_apart.Goals as goal
use Rattle.typing_laws.proofs.SignalsApart.{signals_apart}

pub returns : goal.returns
returns c = signals_apart
