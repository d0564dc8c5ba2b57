use Rattle.front_end.proofs.TypedSources.{has_program, names_signals, apart}
use Rattle.front_end.proofs.laws.signals_are_ready.Goals as goal

pub returns : goal.returns
returns c = record { program = has_program; names = names_signals; apart = apart }
