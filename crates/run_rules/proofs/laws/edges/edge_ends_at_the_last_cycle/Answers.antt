use Rattle.run_rules.proofs.Edges.{move-limit}
use Rattle.run_rules.proofs.laws.edges.edge_ends_at_the_last_cycle.Goals as goal

pub returns : goal.returns
returns g c = move-limit
