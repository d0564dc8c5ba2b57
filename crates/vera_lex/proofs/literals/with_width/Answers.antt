use Rattle.vera_lex.specs.Literals.{decimal_value}
use Rattle.vera_lex.proofs.Digits.{right_any, width_none, width_over}
use Rattle.vera_lex.proofs.literals.with_width.Goals as goal

pub from_digits-requires-clause-digit : goal.from_digits-requires-clause-digit
from_digits-requires-clause-digit c = right_any c.args.base c.args.digits.now c.requires.right

pub returns-in-None : goal.returns-in-None
returns-in-None c = width_none (decimal_value c.args.width.now) c.args.base c.args.digits.now c.small_number.result c.small_number.ensures c.in-None.is

pub returns-then-width-gt128 : goal.returns-then-width-gt128
returns-then-width-gt128 c =
    width_over (decimal_value c.args.width.now) c.args.base c.in-Some.width c.args.digits.now c.small_number.result c.small_number.ensures c.in-Some.is c.if-width-gt128.true
