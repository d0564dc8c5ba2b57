use Rattle.vera_parse.proofs.Answered.{tree_alone, apart, refusal_alone}
use Rattle.vera_parse.proofs.laws.one_answer.Goals as goal

pub returns-clause-tree : goal.returns-clause-tree
returns-clause-tree c = tree_alone c.args._tokens.now

pub returns-clause-apart : goal.returns-clause-apart
returns-clause-apart c = apart c.args._tokens.now

pub returns-clause-refusal : goal.returns-clause-refusal
returns-clause-refusal c = refusal_alone c.args._tokens.now
