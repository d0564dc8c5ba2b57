use Rattle.vera_meaning.proofs.Evaluated.{value-in}
use Rattle.vera_meaning.proofs.laws.expressions.evaluation_only_asks.Goals as goal

pub returns : goal.returns
returns c = λ e contents ns ws. let v = value-in e contents ns ws in (v.bits, v.notes, v.same)
