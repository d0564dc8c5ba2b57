use Rattle.signal_link.proofs.Unlinked.{only_clocks}
use Rattle.signal_link.proofs.laws.only_clocks_link_without_a_netlist.Goals as goal

pub returns : goal.returns
returns c = λ p s h. only_clocks p s h
