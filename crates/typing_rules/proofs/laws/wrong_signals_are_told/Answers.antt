use Rattle.typing_rules.proofs.laws.wrong_signals_are_told.Goals as goal
use Rattle.typing_rules.proofs.SignalRowsHold.{signal_rows_hold}

pub returns : goal.returns
returns c = signal_rows_hold
