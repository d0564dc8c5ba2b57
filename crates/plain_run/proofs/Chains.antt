-- The steps of a chain's loop.
use Rattle.std.proofs.Common.{◌≡◌, ℕ, ◌+◌, ◌<◌, ◌≤◌, List, [], ◌∷◌, length, get_or, drop, sym, ap, ◌∙◌, subst}
use Rattle.std.proofs.lemmas.List.{drop_all, drop_more}
use Rattle.four_state.specs.declared.bit.Bit.{Bit}
use Rattle.store_api.specs.Places.{Contents}
use Rattle.slice_core.specs.Tree.{Effect}
use Rattle.slice_core.specs.Walks.{walked_from}
use Rattle.vera_ast.specs.declared.typed.expr.TypedExpr.{TypedExpr}
use Rattle.vera_ast.specs.declared.typed.expr.TypedExpr.TheViews as views
use Rattle.vera_ast.specs.declared.typed.expr.TypedLink.{TypedLink}
use Rattle.vera_ast.specs.declared.typed.types.ValueType.{ValueType}
use Rattle.vera_ast.specs.ExprTypes.{type_of, type_behind}
use Rattle.vera_ast.specs.Types.{chain_type}
use Rattle.vera_meaning.specs.Operators.{fitted, applied}
use Rattle.vera_meaning.specs.Expressions.{value, Next}
use Rattle.vera_meaning.proofs.Lists.{chained_links}
use Rattle.vera_ast.proofs.TypesOf.{chain_has_type}
use Rattle.vera_meaning.proofs.Views.{value-chain}
use Rattle.plain_run.specs.Gives.{Gives}

-- what is known of a chain's value so far: the links that are left give the rest
pub record Chained (e : TypedExpr) (c : Contents) (links : List TypedLink) (of : ValueType) (bits : List Bit) : Type 0 where
  pub type_is : type_behind links of ≡ type_of e
  pub value_is : (ticks : ℕ) (next : Next) (es : List Effect) → walked_from (value e ticks next) c es ≡ walked_from (chained_links links of bits ticks next) c es

pub chain_begins : (e first : TypedExpr) (links : List TypedLink) (c : Contents) (of : ValueType) (bits : List Bit) → e ≡ views.Chain first links → of ≡ type_of first → Gives first c bits → Chained e c links of bits
chain_begins e first links c of bits is ty g = record {
  type_is = ap (type_behind links) ty ∙ (sym (chain_has_type first links) ∙ ap type_of (sym is));
  value_is = λ ticks next es.
      ap (λ x. walked_from (value x ticks next) c es) is
      ∙ (ap (λ t. walked_from t c es) (value-chain first links ticks next)
      ∙ (g ticks (λ b left. chained_links links (type_of first) b left next) es
      ∙ ap (λ ty. walked_from (chained_links links ty bits ticks next) c es) (sym ty)));
}

pub chain_begins_at : (e first f : TypedExpr) (links ls : List TypedLink) (c : Contents) (of : ValueType) (bits : List Bit) → e ≡ views.Chain first links → f ≡ first → ls ≡ links → of ≡ type_of f → Gives f c bits → Chained e c ls of bits
chain_begins_at e first f links ls c of bits is same_first same_links ty g =
    chain_begins e f ls c of bits (is ∙ (ap (λ x. views.Chain x links) (sym same_first) ∙ ap (views.Chain f) (sym same_links))) ty g

pub chain_goes_on : (e : TypedExpr) (c : Contents) (l : TypedLink) (links : List TypedLink) (of of' right_of : ValueType) (bits bits' right : List Bit) → Chained e c (l ∷ links) of bits → right_of ≡ type_of l.operand → Gives l.operand c right → of' ≡ chain_type l.operator l.works_in → bits' ≡ applied l.operator l.works_in (fitted of l.works_in bits) (fitted right_of l.works_in right) → Chained e c links of' bits'
chain_goes_on e c l links of of' right_of bits bits' right so_far right_ty g ty is = record {
  type_is = ap (type_behind links) ty ∙ so_far.type_is;
  value_is = λ ticks next es.
      so_far.value_is ticks next es
      ∙ (g ticks (λ other left. chained_links links (chain_type l.operator l.works_in) (applied l.operator l.works_in (fitted of l.works_in bits) (fitted (type_of l.operand) l.works_in other)) left next) es
      ∙ (ap (λ x. walked_from (chained_links links (chain_type l.operator l.works_in) (applied l.operator l.works_in (fitted of l.works_in bits) (fitted x l.works_in right)) ticks next) c es) (sym right_ty)
      ∙ (ap (λ x. walked_from (chained_links links (chain_type l.operator l.works_in) x ticks next) c es) (sym is)
      ∙ ap (λ x. walked_from (chained_links links x bits' ticks next) c es) (sym ty))));
}

-- the same in a list of links, at a place
pub chain_goes_on_at : (e : TypedExpr) (c : Contents) (all : List TypedLink) (i : ℕ) (l : TypedLink) (of of' right_of : ValueType) (bits bits' right : List Bit) → i < length all → l ≡ get_or all i l → Chained e c (drop i all) of bits → right_of ≡ type_of l.operand → Gives l.operand c right → of' ≡ chain_type l.operator l.works_in → bits' ≡ applied l.operator l.works_in (fitted of l.works_in bits) (fitted right_of l.works_in right) → Chained e c (drop (i + 1) all) of' bits'
chain_goes_on_at e c all i l of of' right_of bits bits' right within here so_far right_ty g ty is =
    let parts : drop i all ≡ l ∷ drop (i + 1) all = drop_more all i l within ∙ ap (λ x. x ∷ drop (i + 1) all) (sym here) in
    chain_goes_on e c l (drop (i + 1) all) of of' right_of bits bits' right (subst (λ ls. Chained e c ls of bits) parts so_far) right_ty g ty is

pub chain_ends : (e : TypedExpr) (c : Contents) (all : List TypedLink) (i : ℕ) (of : ValueType) (bits : List Bit) → Chained e c (drop i all) of bits → length all ≤ i → Gives e c bits
chain_ends e c all i of bits so_far past =
    let over : Chained e c [] of bits = subst (λ ls. Chained e c ls of bits) (drop_all i all past) so_far in
    λ ticks next es. over.value_is ticks next es

pub chain_typed : (e : TypedExpr) (c : Contents) (all : List TypedLink) (i : ℕ) (of : ValueType) (bits : List Bit) → Chained e c (drop i all) of bits → length all ≤ i → of ≡ type_of e
chain_typed e c all i of bits so_far past = ap (λ ls. type_behind ls of) (sym (drop_all i all past)) ∙ so_far.type_is
