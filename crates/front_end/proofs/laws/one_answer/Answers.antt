use Rattle.front_end.proofs.OneAnswer.{one_source}
use Rattle.front_end.proofs.laws.one_answer.Goals as goal

pub returns : goal.returns
returns c = one_source
