use Rattle.std.proofs.Common.{arith}
use Rattle.parse_exprs.proofs.Depths.{expr_end, expr_next, unary_end, unary_next}
use Rattle.parse_exprs.proofs.exprs.+expr.Goals as goal

pub expr-returns-then-depth-eq0 : goal.expr-returns-then-depth-eq0
expr-returns-then-depth-eq0 t c = λ _. expr_end c.args.depth c.args.tokens.now.rest.now c.fault.result (omega arith) c.fault.ensures

pub expr-returns : goal.expr-returns
expr-returns t c = rw (expr_next c.args.depth c.args.tokens.now.rest.now (omega arith)) c.whole.ensures

pub unary-returns-then-depth-eq0 : goal.unary-returns-then-depth-eq0
unary-returns-then-depth-eq0 t c = λ _. unary_end c.args.depth c.args.tokens.now.rest.now c.fault.result (omega arith) c.fault.ensures

pub unary-returns : goal.unary-returns
unary-returns t c = rw (unary_next c.args.depth c.args.tokens.now.rest.now (omega arith)) c.operand.ensures
