use Rattle.run_rules.proofs.NetNames.{same_signal, same_net_bit}
use Rattle.run_rules.proofs.laws.nets.net_names_are_apart.Goals as goal

pub returns-clause-signal : goal.returns-clause-signal
returns-clause-signal c = same_signal

pub returns-clause-bit : goal.returns-clause-bit
returns-clause-bit c = same_net_bit
