-- The operators of an expression by their signs (OpenVera manual, "Operators").
use Rattle.std.specs.Prelude.{ℕ, List, [], ◌∷◌}
use Rattle.vera_ast.specs.declared.codes.TheConstants as code
use Rattle.vera_ast.specs.declared.tree.expressions.Expr.{Expr}
use Rattle.vera_ast.specs.declared.tree.expressions.Expr.TheViews as expr
use Rattle.vera_ast.specs.declared.tree.expressions.Link.{Link}
use Rattle.vera_ast.specs.declared.tree.expressions.ChainOperator.{ChainOperator}
use Rattle.vera_ast.specs.declared.tree.expressions.ChainOperator.TheVariants as chain
use Rattle.vera_ast.specs.declared.tree.expressions.UnaryOperator.{UnaryOperator}
use Rattle.vera_ast.specs.declared.tree.expressions.UnaryOperator.TheVariants as prefix
use Rattle.vera_ast.specs.Lines.{line_of}

abbrev pub unary_signs : List (ℕ × UnaryOperator)
unary_signs =
    (code.NOT, prefix.LogicalNot) ∷ (code.TILDE, prefix.Not) ∷ (code.MINUS, prefix.Minus) ∷ (code.PLUS, prefix.Plus) ∷ (code.AND, prefix.And) ∷ (code.OR, prefix.Or) ∷
    (code.XOR, prefix.Xor) ∷ (code.NAND, prefix.Nand) ∷ (code.NOR, prefix.Nor) ∷ (code.XNOR, prefix.Xnor) ∷ []

-- the levels of operators between two operands, the loosest first

abbrev pub logical_or_signs : List (ℕ × ChainOperator)
logical_or_signs = (code.OR_OR, chain.LogicalOr) ∷ []

abbrev pub logical_and_signs : List (ℕ × ChainOperator)
logical_and_signs = (code.AND_AND, chain.LogicalAnd) ∷ []

abbrev pub or_signs : List (ℕ × ChainOperator)
or_signs = (code.OR, chain.Or) ∷ []

abbrev pub xor_signs : List (ℕ × ChainOperator)
xor_signs = (code.XOR, chain.Xor) ∷ (code.XNOR, chain.Xnor) ∷ []

abbrev pub and_signs : List (ℕ × ChainOperator)
and_signs = (code.AND, chain.And) ∷ []

abbrev pub equality_signs : List (ℕ × ChainOperator)
equality_signs =
    (code.EQUAL, chain.Equal) ∷ (code.NOT_EQUAL, chain.NotEqual) ∷ (code.CASE_EQUAL, chain.CaseEqual) ∷ (code.CASE_NOT_EQUAL, chain.CaseNotEqual) ∷
    (code.WILD_EQUAL, chain.WildEqual) ∷ (code.WILD_NOT_EQUAL, chain.WildNotEqual) ∷ []

abbrev pub order_signs : List (ℕ × ChainOperator)
order_signs = (code.LESS, chain.Less) ∷ (code.LESS_EQUAL, chain.LessEqual) ∷ (code.GREATER, chain.Greater) ∷ (code.GREATER_EQUAL, chain.GreaterEqual) ∷ []

abbrev pub shift_signs : List (ℕ × ChainOperator)
shift_signs = (code.SHIFT_LEFT, chain.ShiftLeft) ∷ (code.SHIFT_RIGHT, chain.ShiftRight) ∷ []

abbrev pub sum_signs : List (ℕ × ChainOperator)
sum_signs = (code.PLUS, chain.Add) ∷ (code.MINUS, chain.Subtract) ∷ []

abbrev pub product_signs : List (ℕ × ChainOperator)
product_signs = (code.STAR, chain.Multiply) ∷ (code.SLASH, chain.Divide) ∷ (code.PERCENT, chain.Remainder) ∷ []

-- operands of one level; one alone is no chain
unfoldable pub chained : Expr → List Link → Expr
chained first [] = first
chained first (l ∷ ls) = expr.Chain (line_of first) first (l ∷ ls)
