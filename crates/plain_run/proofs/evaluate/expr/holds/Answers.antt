use Rattle.std.proofs.Common.{ap, sym}
use Rattle.vera_meaning.specs.Operators.{is_one}
use Rattle.plain_run.proofs.evaluate.expr.holds.Goals as goal

pub returns-in-One : goal.returns-in-One
returns-in-One c = (c.value.result.bits, c.value.ensures.bits, ap is_one (sym c.in-One.ensures))

pub returns-in-Zero : goal.returns-in-Zero
returns-in-Zero c = (c.value.result.bits, c.value.ensures.bits, ap is_one (sym c.in-Zero.ensures))

pub returns-in-X : goal.returns-in-X
returns-in-X c = (c.value.result.bits, c.value.ensures.bits, ap is_one (sym c.in-X.ensures))
