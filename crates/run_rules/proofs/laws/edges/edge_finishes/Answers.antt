use Rattle.run_rules.proofs.Edges.{move-finishes}
use Rattle.run_rules.proofs.laws.edges.edge_finishes.Goals as goal

pub returns : goal.returns
returns g c = move-finishes
