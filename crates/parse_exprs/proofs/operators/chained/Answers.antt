use Rattle.std.proofs.Common.{◌≡◌, refl, true, false}
use Rattle.parse_exprs.proofs.Chains.{chained_nil, chained_some}
use Rattle.parse_exprs.proofs.operators.chained.Goals as goal

pub returns-then-is_empty : goal.returns-then-is_empty
returns-then-is_empty c = chained_nil c.args.first c.args.links (c.if-is_empty.ensures.0 refl)

pub returns : goal.returns
returns c = chained_some c.args.first c.in_ok-new.field-0 c.args.links c.line-line.result (λ h. let off : false ≡ true = c.if-is_empty.ensures.1 h in absurd cc) c.line-line.ensures c.in_ok-new.ensures
