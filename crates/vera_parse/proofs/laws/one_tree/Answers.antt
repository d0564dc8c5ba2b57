use Rattle.vera_parse.proofs.Answered.{same_tree}
use Rattle.vera_parse.proofs.laws.one_tree.Goals as goal

pub returns : goal.returns
returns c = same_tree c.args._tokens.now
