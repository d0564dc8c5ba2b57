-- The laws of statements at each depth, by recursion on the levels that are left.
use Rattle.std.proofs.Common.{◌≡◌, ℕ, zero, suc, ◌+◌, ◌≤◌, true, false, [], ◌∷◌, refl, inl, inr, arith}
use Rattle.grammar_laws.specs.Languages.{choice, sequence}
use Rattle.grammar_laws.specs.Languages as languages
use Rattle.grammar_laws.specs.Readers.{too_deep}
use Rattle.grammar_laws.proofs.Law.{Shape, Opens, Law, Least}
use Rattle.grammar_laws.proofs.Knot.{depth_end, unread}
use Rattle.grammar_laws.proofs.Settle.{grow, up, lower, fewer}
use Rattle.grammar_laws.proofs.TwoKinds.{Second, OpensWith}
use Rattle.vera_ast.specs.declared.codes.TheConstants as code
use Rattle.vera_ast.specs.declared.token.Token.{Token}
use Rattle.vera_ast.specs.declared.tree.statements.Stmt.{Stmt}
use Rattle.vera_ast.specs.declared.tree.statements.Stmt.TheVariants as s
use Rattle.parse_stmts.specs.Declarations as declarations
use Rattle.parse_stmts.specs.DeclarationReading as declaration_reading
use Rattle.parse_exprs.specs.Expressions as e
use Rattle.parse_exprs.specs.ExpressionReading as reading
use Rattle.parse_exprs.specs.Sets.{first_expr, first_type}
use Rattle.parse_stmts.specs.Statements as g
use Rattle.parse_stmts.specs.StatementReading as r
use Rattle.parse_stmts.specs.StatementSets.{first_stmt, after_name, join_words}
use Rattle.parse_cursor.specs.Tokens.{kind_of}
use Rattle.parse_cursor.specs.Tokens as tokens
use Rattle.parse_stmts.proofs.DeclarationLaws.{decl, second_decl, opens_decl}
use Rattle.parse_exprs.proofs.ExpressionLevels.{none, any, no_shape, shaped, known, heights, at_four, one_lower, expr_at, post_at, free_at}
use Rattle.parse_exprs.proofs.PostLevels.{shaped_expr, shaped_post, shaped_free, post_next, known_expr, known_post, known_free, post_alone, post_opens}
use Rattle.parse_cursor.proofs.Samples.{a_token, of_kind}
use Rattle.parse_stmts.proofs.StatementLaws.{block, body, second_body, opens_body}

-- ---- the shape of statements, and what comes second in those that begin with a name

shaped_decl : (h d : ℕ) → Law kind_of (unread none) d d false true first_type [] [] (declaration_reading.decl (too_deep kind_of first_expr)) (λ _. declarations.decl (e.expr h) d)
shaped_decl h d = decl (unread none) d d (λ h t. absurd t) false _ (λ _. e.expr h) (shaped_expr h d)

decl_second : (h d k : ℕ) → Second kind_of code.NAME (code.NAME ∷ []) (declarations.decl (e.expr h) d)
decl_second h d k = second_decl (unread none) d d (λ h t. absurd t) false _ (λ _. e.expr h) (shaped_expr h d) k

pub stmt_shapes : (h d : ℕ) → Shape kind_of (suc d) false first_stmt (code.ELSE ∷ []) (g.stmt h d) × Second kind_of code.NAME after_name (g.stmt h d)
unfolding g.stmt
stmt_shapes zero d = (no_shape (suc d) first_stmt (code.ELSE ∷ []) _ (λ w r a x. x), record { second = λ c w r a x e. absurd x })
stmt_shapes (suc h) d =
    let below = stmt_shapes h (suc d) in
    let S = shaped (suc d) first_stmt join_words (code.ELSE ∷ []) (g.stmt h (suc d)) below.0 in (
      (body (unread none) (suc d) (suc d) (λ h t. absurd t) false true false _ _ _ _ _ (λ _. e.expr h) (λ _. e.post (e.expr h) (e.unary h)) (λ _. e.free (e.expr h) (e.unary h)) (λ _. declarations.decl (e.expr h)) (λ _. g.stmt h)
          (shaped_expr h (suc d)) (shaped_post h (suc d)) (shaped_free h (suc d)) (shaped_decl h (suc d)) S (decl_second h (suc d)) (λ k. below.1) (λ k t. absurd t) (λ k t. absurd t)).shape 0,
      second_body (unread none) (suc d) (suc d) (λ h t. absurd t) false true false _ _ _ _ _ (λ _. e.expr h) (λ _. e.post (e.expr h) (e.unary h)) (λ _. e.free (e.expr h) (e.unary h)) (λ _. declarations.decl (e.expr h)) (λ _. g.stmt h)
          (shaped_expr h (suc d)) (shaped_post h (suc d)) (shaped_free h (suc d)) (shaped_decl h (suc d)) S (decl_second h (suc d)) (λ k. below.1) (λ k t. absurd t) (λ k t. absurd t) 0 (post_next h (suc d)),
    )

-- ---- some statement

abbrev a_semicolon : Token
a_semicolon = a_token code.SEMICOLON

stmt_least : (h d : ℕ) → Least false (g.stmt (suc h) d)
unfolding g.stmt g.body g.empty tokens.word choice sequence languages.word languages.pure
stmt_least h d = record {
  word = (a_semicolon, suc d) ∷ [];
  empty = λ e. absurd cc;
  value = s.Empty 1;
  derived = inr (inl (1, (a_semicolon, suc d) ∷ [], [], refl, (a_semicolon, (a_semicolon, suc d) ∷ [], [], refl, (refl, of_kind code.SEMICOLON refl), (refl, refl)), (refl, refl)));
}

-- ---- each first token begins one: by laws of stand-ins of which a word is known

known_decl : (h d : ℕ) → Law kind_of (unread any) d d false true first_type [] [] (declaration_reading.decl (too_deep kind_of first_expr)) (λ _. declarations.decl (e.expr (suc (suc h))) d)
known_decl h d = decl (unread any) d d (λ h t. absurd t) false _ (λ _. e.expr (suc (suc h))) (known_expr h d)

stmt_opens : (h d : ℕ) → Opens kind_of (g.stmt (suc (suc (suc h))) d) first_stmt × OpensWith kind_of code.NAME after_name (λ k. Unit {0}) (g.stmt (suc (suc (suc h))) d)
unfolding g.stmt
stmt_opens h d =
    let n : ℕ = suc (suc h) in
    let shapes = stmt_shapes n (suc d) in
    let S = known (suc d) first_stmt join_words (code.ELSE ∷ []) (g.stmt n (suc d)) shapes.0 (stmt_least (suc h) (suc d)) in (
      (body (unread any) (suc d) (suc d) (λ h t. absurd t) false true false _ _ _ _ _ (λ _. e.expr n) (λ _. e.post (e.expr n) (e.unary n)) (λ _. e.free (e.expr n) (e.unary n)) (λ _. declarations.decl (e.expr n)) (λ _. g.stmt n)
          (known_expr h (suc d)) (known_post h (suc d)) (known_free h (suc d)) (known_decl h (suc d)) S (decl_second n (suc d)) (λ k. shapes.1) (λ k t. absurd t) (λ k t. absurd t)).opens 0 tt refl,
      opens_body (unread any) (suc d) (suc d) (λ h t. absurd t) false true false _ _ _ _ _ (λ _. e.expr n) (λ _. e.post (e.expr n) (e.unary n)) (λ _. e.free (e.expr n) (e.unary n)) (λ _. declarations.decl (e.expr n)) (λ _. g.stmt n)
          (known_expr h (suc d)) (known_post h (suc d)) (known_free h (suc d)) (known_decl h (suc d)) S (decl_second n (suc d)) (λ k. shapes.1) (λ k t. absurd t) (λ k t. absurd t) 0 tt (post_alone h (suc d)) (post_opens h (suc d)),
    )

-- ---- the levels

abbrev pub StmtLaw : ℕ → ℕ → ℕ → Type 0
StmtLaw n limit d = Law kind_of (heights n) limit (suc d) false true first_stmt join_words (code.ELSE ∷ []) (r.stmt n) (λ h. g.stmt h d)

-- what a name at the start of a statement goes on with, at heights that suffice
opens_with : (n d h : ℕ) → 4 + n ≤ h → OpensWith kind_of code.NAME after_name (λ k. Unit {0}) (g.stmt h d)
opens_with n d h le = at_four (λ h. OpensWith kind_of code.NAME after_name (λ k. Unit {0}) (g.stmt h d)) (λ h. (stmt_opens (suc h) d).1) h (omega arith)

decl_at : (n limit d : ℕ) → d + n ≡ limit → Law kind_of (heights n) limit d false true first_type [] [] (declaration_reading.decl (reading.expr n)) (λ h. declarations.decl (e.expr h) d)
decl_at n limit d eq = let at : d ≤ limit = omega arith in decl (heights n) limit d (λ h t. at) true (reading.expr n) e.expr (expr_at n limit d eq)

decl_opens : (n limit d : ℕ) → d + n ≡ limit → (h : ℕ) → 4 + n ≤ h → OpensWith kind_of code.NAME (code.NAME ∷ []) (λ k. k ≤ limit) (declarations.decl (e.expr h) d)
decl_opens n limit d eq h tall = let at : d ≤ limit = omega arith in opens_decl (heights n) limit d (λ h t. at) true (reading.expr n) e.expr (expr_at n limit d eq) h tall

pub stmt_laws : (n limit d : ℕ) → d + n ≡ limit → StmtLaw n limit d
unfolding r.stmt g.stmt
stmt_laws zero limit d eq =
    grow join_words (code.ELSE ∷ []) refl refl (
    depth_end Token Stmt kind_of (heights 0) limit (suc d) first_stmt (code.ELSE ∷ []) (λ h. g.stmt h d) (λ h. (stmt_shapes h d).0) (omega arith) (at_four (λ h. Least false (g.stmt h d)) (λ h. stmt_least (suc (suc (suc h))) d)) true
    (λ h t o. at_four (λ h. Opens kind_of (g.stmt h d) first_stmt) (λ h. (stmt_opens (suc h) d).0) h t) (λ h t. refl))
stmt_laws (suc n) limit d eq =
    let at : suc d ≤ limit = omega arith in
    let less : suc d + n ≡ limit = omega arith in
    let S = lower (suc d) (omega arith) (stmt_laws n limit (suc d) less) in
    let all = body (heights n) limit (suc d) (λ h t. at) true true true (reading.expr n) _ _ _ (r.stmt n) e.expr (λ h. e.post (e.expr h) (e.unary h)) (λ h. e.free (e.expr h) (e.unary h)) (λ h. declarations.decl (e.expr h)) g.stmt
    (expr_at n limit (suc d) less) (post_at n limit (suc d) less) (free_at n limit (suc d) less) (decl_at n limit (suc d) less) S (λ h. decl_second h (suc d) 0) (λ h. (stmt_shapes h (suc d)).1) (decl_opens n limit (suc d) less) (opens_with n (suc d)) in
    fewer (one_lower n) (one_lower n) (up Token Stmt kind_of (heights n) limit (suc d) false true first_stmt join_words (code.ELSE ∷ []) (r.stmt (suc n)) (λ h. g.stmt (suc h) d) (λ h. g.stmt h d) all (λ w r a x. x) (λ h w r a x. x) (λ h w r a x. x))

-- a block at a depth, where so many levels are left
pub block_at : (n limit d : ℕ) → d + n ≡ limit → Law kind_of (heights n) limit d false true (code.LEFT_BRACE ∷ []) [] [] (r.block (declaration_reading.decl (reading.expr n)) (r.stmt n)) (λ h. g.block (declarations.decl (e.expr h)) (g.stmt h) d)
block_at n limit d eq =
    let at : d ≤ limit = omega arith in
    block (heights n) limit d (λ h t. at) true (r.stmt n) g.stmt (lower d (omega arith) (stmt_laws n limit d eq)) true _ (λ h. declarations.decl (e.expr h)) (decl_at n limit d eq) (λ h. decl_second h d 0) (λ h. (stmt_shapes h d).1) (decl_opens n limit d eq) (opens_with n d)
