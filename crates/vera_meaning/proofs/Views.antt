-- A tree as the code sees it, and as the definitions match on it.
use Rattle.std.proofs.Common.{◌≡◌, ℕ, List, [], ◌∷◌, refl, ap}
use Rattle.four_state.specs.declared.bit.Bit.{Bit}
use Rattle.vera_ast.specs.declared.typed.expr.TypedExpr.{TypedExpr}
use Rattle.vera_ast.specs.declared.typed.expr.TypedExpr.TheViews as views
use Rattle.vera_ast.specs.declared.typed.expr.TypedExpr.TheBlock.{hidden-the_row-TypedLink-1 as row}
use Rattle.vera_ast.specs.declared.typed.expr.TypedLink.{TypedLink}
use Rattle.vera_ast.specs.declared.typed.types.ValueType.{ValueType}
use Rattle.vera_ast.specs.ExprTypes.{type_of}
use Rattle.vera_ast.specs.Types.{chain_type}
use Rattle.vera_meaning.specs.Operators.{fitted, applied}
use Rattle.vera_meaning.specs.Expressions.{value, chained, Next}
use Rattle.vera_meaning.proofs.Lists.{chained_links}

chained_row : (links : List TypedLink) (ty : ValueType) (bits : List Bit) (ticks : ℕ) (next : Next) → chained (row links) ty bits ticks next ≡ chained_links links ty bits ticks next
unfolding Rattle.vera_ast.specs.declared.typed.expr.TypedExpr.TheViews.roll-TypedExpr Rattle.vera_ast.specs.declared.typed.expr.TypedExpr.TheBlock.hidden-the_row-TypedLink-1 denote.Hole.Carrier.roll denote.Hole.Carrier.hidden
chained_row [] ty bits ticks next = refl
chained_row (l ∷ links) ty bits ticks next =
    ap (value l.operand ticks) (λ i other left. chained_row links (chain_type l.operator l.works_in) (applied l.operator l.works_in (fitted ty l.works_in bits) (fitted (type_of l.operand) l.works_in other)) left next i)

pub value-chain : (first : TypedExpr) (links : List TypedLink) (ticks : ℕ) (next : Next) → value (views.Chain first links) ticks next ≡ value first ticks (λ bits left. chained_links links (type_of first) bits left next)
unfolding Rattle.vera_ast.specs.declared.typed.expr.TypedExpr.TheViews.roll-TypedExpr Rattle.vera_ast.specs.declared.typed.expr.TypedExpr.TheBlock.hidden-the_row-TypedExpr-0 denote.Hole.Carrier.roll denote.Hole.Carrier.hidden
value-chain first links ticks next = ap (value first ticks) (λ i bits left. chained_row links (type_of first) bits left next i)
