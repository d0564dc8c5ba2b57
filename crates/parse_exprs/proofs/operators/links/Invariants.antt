use Rattle.std.proofs.Common.{◌≡◌, ◌-◌}
use Rattle.vera_ast.specs.declared.token.Token.{Token}
use Rattle.vera_ast.specs.declared.tree.expressions.Expr.{Expr}
use Rattle.grammar_laws.specs.Readers.{Parser, many_from, grown}
use Rattle.parse_cursor.specs.Tokens.{kind_of}
use Rattle.parse_cursor.specs.TokenReading.{many, codes_of}
use Rattle.parse_exprs.specs.ExpressionReading.{link}
use Rattle.parse_cursor.specs.Nesting.{Follows}
use Rattle.parse_exprs.proofs.operators.links.Given as goal

abbrev pub invariant-loop-turn : goal.invariant-loop-turn
invariant-loop-turn g l = (p : Parser Token Expr) → Follows p (goal.F-pre g l.operand) (goal.F-post g l.operand)
    → grown l.found (many_from kind_of (codes_of l.operators) (link l.operators p) (l._turn-end - l._turn) l.tokens.rest.now) ≡ many (codes_of l.operators) (link l.operators p) l.fn.tokens.rest.now
