use Rattle.parse_exprs.proofs.exprs.+expr.Given as goal

abbrev pub decreases-expr : goal.decreases-expr
decreases-expr l = l.depth

abbrev pub decreases-unary : goal.decreases-unary
decreases-unary l = l.depth
