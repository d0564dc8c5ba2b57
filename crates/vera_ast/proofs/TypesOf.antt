-- The types of expressions with parts, as the code computes them.
use Rattle.std.proofs.Common.{◌≡◌, refl, sym, ap, ◌∙◌, List, [], ◌∷◌}
use Rattle.vera_ast.specs.Types.{chain_type, unary_type}
use Rattle.vera_ast.specs.ExprTypes.{type_of, type_after, type_behind}
use Rattle.vera_ast.proofs.TypedExprViews.{chain-is, unary-is, no_links-is, links-is}
use Rattle.vera_ast.specs.declared.tree.expressions.UnaryOperator.{UnaryOperator}
use Rattle.vera_ast.specs.declared.typed.expr.TypedExpr.{TypedExpr}
use Rattle.vera_ast.specs.declared.typed.expr.TypedExpr.TheVariants as expr
use Rattle.vera_ast.specs.declared.typed.expr.TypedExpr.TheBlock.{hidden-the_row-TypedLink-1 as links_of}
use Rattle.vera_ast.specs.declared.typed.expr.TypedLink.{TypedLink}
use Rattle.vera_ast.specs.declared.typed.types.ValueType.{ValueType}

row_type : (links : List TypedLink) (ty : ValueType) → type_after (links_of links) ty ≡ type_behind links ty
row_type [] ty = no_links-is (λ m row. type_after row ty ≡ ty) refl
row_type (l ∷ links) ty =
    links-is (λ m row. type_after row ty ≡ type_behind links (chain_type l.operator l.works_in)) l links (row_type links (chain_type l.operator l.works_in))

-- a chain has the type behind its links
pub chain_has_type : (first : TypedExpr) (links : List TypedLink) → type_of (expr.Chain first links) ≡ type_behind links (type_of first)
chain_has_type first links = chain-is (λ e. type_of e ≡ type_behind links (type_of first)) first links (λ p. row_type links (type_of first))

pub unary_has_type : (operator : UnaryOperator) (operand : TypedExpr) → type_of (expr.Unary operator operand) ≡ unary_type operator (type_of operand)
unary_has_type operator operand = unary-is (λ e. type_of e ≡ unary_type operator (type_of operand)) operator operand (λ p. refl)

-- the same where the code has the parts

pub chain_gives : (e first f : TypedExpr) (links ls : List TypedLink) (ty r : ValueType) → e ≡ expr.Chain first links → f ≡ first → ls ≡ links → ty ≡ type_of f → r ≡ type_behind ls ty → r ≡ type_of e
chain_gives e first f links ls ty r is same_first same_links has gives =
    gives
    ∙ (ap (type_behind ls) has
    ∙ (ap (λ x. type_behind ls (type_of x)) same_first
    ∙ (ap (λ x. type_behind x (type_of first)) same_links
    ∙ (sym (chain_has_type first links) ∙ ap type_of (sym is)))))

pub unary_gives : (e operand x : TypedExpr) (operator : UnaryOperator) (ty r : ValueType) → e ≡ expr.Unary operator operand → x ≡ operand → ty ≡ type_of x → r ≡ unary_type operator ty → r ≡ type_of e
unary_gives e operand x operator ty r is same has gives =
    gives
    ∙ (ap (unary_type operator) has
    ∙ (ap (λ y. unary_type operator (type_of y)) same
    ∙ (sym (unary_has_type operator operand) ∙ ap type_of (sym is))))
