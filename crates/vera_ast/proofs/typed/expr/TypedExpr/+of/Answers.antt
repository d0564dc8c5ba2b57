use Rattle.vera_ast.proofs.TypesOf.{chain_gives, unary_gives}
use Rattle.vera_ast.proofs.typed.expr.TypedExpr.+of.Goals as goal

pub returns-in-Chain : goal.returns-in-Chain
returns-in-Chain t c = chain_gives _ _ _ _ _ _ _ c.in-Chain.is c.get.ensures c.as_slice.ensures c.of.ensures c.type_behind.ensures

pub returns-in-Unary : goal.returns-in-Unary
returns-in-Unary t c = unary_gives _ _ _ _ _ _ c.in-Unary.is c.get-in-Unary.ensures c.of-in-Unary.ensures c.gives.ensures
