use Rattle.run_rules.proofs.TurnLimit.{move-turn}
use Rattle.run_rules.proofs.laws.turns.turn_of_the_first_ready.Goals as goal

pub returns : goal.returns
returns g c = move-turn
