use Rattle.vera_meaning.proofs.Taken.{slice_of-block}
use Rattle.vera_meaning.proofs.laws.statements.block_is_its_statements.Goals as goal

pub returns : goal.returns
returns c = slice_of-block
