-- A chain of operators, by its last.
use Rattle.std.proofs.Common.{◌≡◌, ℕ, List, [], ◌∷◌, ◌++◌, refl, sym, ap, ◌∙◌}
use Rattle.four_state.specs.declared.bit.Bit.{Bit}
use Rattle.vera_ast.specs.declared.typed.expr.TypedExpr.{TypedExpr}
use Rattle.vera_ast.specs.declared.typed.expr.TypedExpr.TheViews.{Chain}
use Rattle.vera_ast.specs.declared.typed.expr.TypedLink.{TypedLink}
use Rattle.vera_ast.specs.declared.typed.types.ValueType.{ValueType}
use Rattle.vera_ast.specs.ExprTypes.{type_of, type_behind}
use Rattle.vera_ast.specs.Types.{chain_type}
use Rattle.vera_meaning.specs.Operators.{fitted, applied}
use Rattle.vera_meaning.specs.Expressions.{value, Next}
use Rattle.vera_meaning.proofs.Lists.{chained_links}
use Rattle.vera_ast.proofs.TypesOf.{chain_has_type}
use Rattle.vera_meaning.proofs.Views.{value-chain}

-- an operator after a value of this type
abbrev linked : TypedLink → ValueType → Next → Next
linked l ty next bits ticks =
    value l.operand ticks (λ other left. next (applied l.operator l.works_in (fitted ty l.works_in bits) (fitted (type_of l.operand) l.works_in other)) left)

chained_links-last : (links : List TypedLink) (l : TypedLink) (ty : ValueType) (bits : List Bit) (ticks : ℕ) (next : Next) → chained_links (links ++ l ∷ []) ty bits ticks next ≡ chained_links links ty bits ticks (linked l (type_behind links ty) next)
chained_links-last [] l ty bits ticks next = refl
chained_links-last (k ∷ links) l ty bits ticks next =
    ap (value k.operand ticks) (λ i other left. chained_links-last links l (chain_type k.operator k.works_in) (applied k.operator k.works_in (fitted ty k.works_in bits) (fitted (type_of k.operand) k.works_in other)) left next i)

type_behind-last : (links : List TypedLink) (l : TypedLink) (ty : ValueType) → type_behind (links ++ l ∷ []) ty ≡ chain_type l.operator l.works_in
type_behind-last [] l ty = refl
type_behind-last (k ∷ links) l ty = type_behind-last links l (chain_type k.operator k.works_in)

pub chain-alone : (first : TypedExpr) (ticks : ℕ) (next : Next) → value (Chain first []) ticks next ≡ value first ticks next
chain-alone first ticks next = value-chain first [] ticks next

pub chain-last : (first : TypedExpr) (links : List TypedLink) (l : TypedLink) (ticks : ℕ) (next : Next) → value (Chain first (links ++ l ∷ [])) ticks next ≡ value (Chain first links) ticks (λ bits left. value l.operand left (λ other left'. next (applied l.operator l.works_in (fitted (type_of (Chain first links)) l.works_in bits) (fitted (type_of l.operand) l.works_in other)) left'))
chain-last first links l ticks next =
    value-chain first (links ++ l ∷ []) ticks next
    ∙ (ap (value first ticks) (λ i bits left. chained_links-last links l (type_of first) bits left next i)
    ∙ (sym (value-chain first links ticks (linked l (type_behind links (type_of first)) next))
    ∙ ap (λ ty. value (Chain first links) ticks (linked l ty next)) (sym (chain_has_type first links))))

pub type-alone : (first : TypedExpr) → type_of (Chain first []) ≡ type_of first
type-alone first = chain_has_type first []

pub type-last : (first : TypedExpr) (links : List TypedLink) (l : TypedLink) → type_of (Chain first (links ++ l ∷ [])) ≡ chain_type l.operator l.works_in
type-last first links l = chain_has_type first (links ++ l ∷ []) ∙ type_behind-last links l (type_of first)
