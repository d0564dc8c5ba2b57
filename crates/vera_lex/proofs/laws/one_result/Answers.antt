use Rattle.vera_lex.proofs.OneResult.{one_result}
use Rattle.vera_lex.proofs.laws.one_result.Goals as goal

pub returns : goal.returns
returns c = one_result c.args._bytes.now
