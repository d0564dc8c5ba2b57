use Rattle.vera_lex.proofs.Digits.{right_any}
use Rattle.vera_lex.proofs.literals.without_width.Goals as goal

pub from_digits-requires-clause-digit : goal.from_digits-requires-clause-digit
from_digits-requires-clause-digit c = right_any c.args.base c.args.digits.now c.requires.right
