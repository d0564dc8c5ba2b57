use Rattle.vera_parse.proofs.Answered.{nothing}
use Rattle.vera_parse.proofs.laws.nothing_is_a_file.Goals as goal

pub returns : goal.returns
returns c = nothing
