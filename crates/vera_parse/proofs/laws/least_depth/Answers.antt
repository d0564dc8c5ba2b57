use Rattle.vera_parse.specs.Answer.{limit}
use Rattle.vera_parse.proofs.Top.{least_is_deep}
use Rattle.vera_parse.proofs.laws.least_depth.Goals as goal

pub returns : goal.returns
returns c = λ left reach. least_is_deep limit c.args._tokens.now reach left
