use Rattle.std.proofs.Common.{arith, refl}
use Rattle.vera_lex.specs.Literals.{decimal_value}
use Rattle.vera_lex.proofs.Digits.{value_past, big_none}
use Rattle.vera_lex.proofs.literals.small_number.Goals as goal

pub returns-then-value-from : goal.returns-then-value-from
returns-then-value-from c =
    let ds = c.args.digits.now in
    let past = value_past ds c.loop-digit.digit-index _ c.loop-digit.value c.from.result _ c.loop-digit-test.true refl c.if-digit-ne95.true c.loop-digit.invariant.decimal c.from.ensures c.loop-digit.invariant.read in
    big_none (decimal_value ds) (omega arith)
