-- Postfix expressions at any height, for the laws of what stands on them: their words' shape, a word, and those that begin with a name.
use Rattle.std.proofs.Common.{ℕ, suc, true, false, []}
use Rattle.vera_ast.specs.declared.codes.TheConstants as code
use Rattle.grammar_laws.specs.Readers.{too_deep}
use Rattle.parse_cursor.specs.Tokens.{kind_of}
use Rattle.parse_exprs.specs.Expressions as g
use Rattle.parse_exprs.specs.ExpressionReading as r
use Rattle.parse_exprs.specs.Sets.{first_post, first_free, first_expr, first_suffix}
use Rattle.parse_exprs.proofs.ExpressionLaws.{clash_post, clash_expr, free, post}
use Rattle.parse_exprs.proofs.PostNames.{next_post, alone_post, opens_post}
use Rattle.parse_exprs.proofs.ExpressionLevels.{none, any, shaped, known, expr_shapes, expr_least, unary_least}
use Rattle.grammar_laws.proofs.Law.{Law}
use Rattle.grammar_laws.proofs.Knot.{unread}
use Rattle.grammar_laws.proofs.TwoKinds.{OpensWith}
use Rattle.grammar_laws.proofs.Seconds.{Next, Alone}

-- ---- of which only the shape is known

pub shaped_expr : (h d : ℕ) → Law kind_of (unread none) d d false false first_expr clash_expr [] (too_deep kind_of first_expr) (λ _. g.expr h d)
shaped_expr h d = shaped d first_expr clash_expr [] (g.expr h d) (expr_shapes h d).0

pub shaped_unary : (h d : ℕ) → Law kind_of (unread none) d d false false first_expr clash_post [] (too_deep kind_of first_expr) (λ _. g.unary h d)
shaped_unary h d = shaped d first_expr clash_post [] (g.unary h d) (expr_shapes h d).1

pub shaped_post : (h d : ℕ) → Law kind_of (unread none) d d false true first_post clash_post [] (r.post (too_deep kind_of first_expr) (too_deep kind_of first_expr)) (λ _. g.post (g.expr h) (g.unary h) d)
shaped_post h d = post (unread none) d d (λ h t. absurd t) false false _ _ (λ _. g.expr h) (λ _. g.unary h) (shaped_expr h d) (shaped_unary h d)

pub shaped_free : (h d : ℕ) → Law kind_of (unread none) d d false true first_free clash_post [] (r.free (too_deep kind_of first_expr) (too_deep kind_of first_expr)) (λ _. g.free (g.expr h) (g.unary h) d)
shaped_free h d = free (unread none) d d (λ h t. absurd t) false false _ _ (λ _. g.expr h) (λ _. g.unary h) (shaped_expr h d) (shaped_unary h d)

-- what comes second in those that begin with a name
pub post_next : (h d : ℕ) → Next kind_of code.NAME true first_suffix (g.post (g.expr h) (g.unary h) d)
post_next h d = next_post (unread none) d d (λ h t. absurd t) false false _ _ (λ _. g.expr h) (λ _. g.unary h) (shaped_expr h d) (shaped_unary h d) 0

-- ---- of which a word is known

pub known_expr : (h d : ℕ) → Law kind_of (unread any) d d false false first_expr clash_expr [] (too_deep kind_of first_expr) (λ _. g.expr (suc (suc h)) d)
known_expr h d = known d first_expr clash_expr [] (g.expr (suc (suc h)) d) (expr_shapes (suc (suc h)) d).0 (expr_least h d)

pub known_unary : (h d : ℕ) → Law kind_of (unread any) d d false false first_expr clash_post [] (too_deep kind_of first_expr) (λ _. g.unary (suc (suc h)) d)
known_unary h d = known d first_expr clash_post [] (g.unary (suc (suc h)) d) (expr_shapes (suc (suc h)) d).1 (unary_least (suc h) d)

pub known_post : (h d : ℕ) → Law kind_of (unread any) d d false true first_post clash_post [] (r.post (too_deep kind_of first_expr) (too_deep kind_of first_expr)) (λ _. g.post (g.expr (suc (suc h))) (g.unary (suc (suc h))) d)
known_post h d = post (unread any) d d (λ h t. absurd t) false false _ _ (λ _. g.expr (suc (suc h))) (λ _. g.unary (suc (suc h))) (known_expr h d) (known_unary h d)

pub known_free : (h d : ℕ) → Law kind_of (unread any) d d false true first_free clash_post [] (r.free (too_deep kind_of first_expr) (too_deep kind_of first_expr)) (λ _. g.free (g.expr (suc (suc h))) (g.unary (suc (suc h))) d)
known_free h d = free (unread any) d d (λ h t. absurd t) false false _ _ (λ _. g.expr (suc (suc h))) (λ _. g.unary (suc (suc h))) (known_expr h d) (known_unary h d)

-- a name alone, and a name with each token that may come second
pub post_alone : (h d : ℕ) → Alone kind_of code.NAME (λ k. Unit {0}) (g.post (g.expr (suc (suc h))) (g.unary (suc (suc h))) d)
post_alone h d = alone_post (unread any) d d (λ h t. absurd t) false false _ _ (λ _. g.expr (suc (suc h))) (λ _. g.unary (suc (suc h))) (known_expr h d) (known_unary h d) 0 tt

pub post_opens : (h d : ℕ) → OpensWith kind_of code.NAME first_suffix (λ k. Unit {0}) (g.post (g.expr (suc (suc h))) (g.unary (suc (suc h))) d)
post_opens h d = opens_post (unread any) d d (λ h t. absurd t) false false _ _ (λ _. g.expr (suc (suc h))) (λ _. g.unary (suc (suc h))) (known_expr h d) (known_unary h d) 0 tt
