use Rattle.typing_rules.proofs.laws.expressions_have_their_types.Goals as goal
use Rattle.typing_rules.proofs.WalkSound.{expr_sound}

pub returns : goal.returns
returns c = expr_sound
