use Rattle.source_names.proofs.laws.signal_names_are_plain.Goals as goal
use Rattle.source_names.proofs.SignalNames.{plain_signals}

pub returns : goal.returns
returns c = plain_signals
