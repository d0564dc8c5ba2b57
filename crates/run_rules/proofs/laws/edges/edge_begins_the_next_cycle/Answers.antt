use Rattle.run_rules.proofs.Edges.{move-next}
use Rattle.run_rules.proofs.laws.edges.edge_begins_the_next_cycle.Goals as goal

pub returns : goal.returns
returns g c = move-next
