-- The laws of the small grammar's expressions and statements at each depth, by recursion on the levels that are left.
use Rattle.std.proofs.Common.{◌≡◌, ℕ, zero, suc, ◌+◌, ◌-◌, ◌≤◌, true, false, List, [], ◌∷◌, refl, sym, subst, arith}
use Rattle.std.proofs.Common.{inl, inr}
use Rattle.std.proofs.lemmas.List.{append-nil}
use Rattle.grammar_laws.specs.Words.{Cell}
use Rattle.grammar_laws.specs.Languages.{Lang, sequence, choice}
use Rattle.grammar_laws.specs.Languages as languages
use Rattle.grammar_laws.specs.Readers.{too_deep}
use Rattle.grammar_laws.specs.ExampleGrammar as g
use Rattle.grammar_laws.specs.ExampleGrammar.{Token, code, Tree, Leaf}
use Rattle.grammar_laws.specs.ExampleReading as r
use Rattle.grammar_laws.specs.ExampleReading.{first_post, first_expr, first_stmt, after_name}
use Rattle.grammar_laws.proofs.Law.{Words, Shape, Heights, Opens, Law, Least}
use Rattle.grammar_laws.proofs.Knot.{depth_end, stand_in, unread}
use Rattle.grammar_laws.proofs.Many.{many}
use Rattle.grammar_laws.proofs.Settle.{grow, up, lower, fewer, Up}
use Rattle.grammar_laws.proofs.TwoKinds.{Second, OpensWith}
use Rattle.grammar_laws.proofs.Seconds.{Next}
use Rattle.grammar_laws.proofs.ExampleExprs.{clash_post, clash_expr, a_token, compare, operand, post, next_post, alone_post, opens_post}
use Rattle.grammar_laws.proofs.ExampleStmts.{block, body, second_body, opens_body}

-- ---- the shape of words, by laws of stand-ins of which only the words' shape counts

not_so : (P : Type 0) → false ≡ true → P
not_so P e = absurd cc

abbrev none : ℕ → Type 0
none h = ⊥

abbrev shaped : (d : ℕ) (f c1 g1 : List ℕ) (words : Words Token Tree) → Shape code (suc d) false f g1 words → Law code (unread none) d d false false f c1 g1 (too_deep code f) (λ h. words)
shaped d f c1 g1 words s = stand_in none false d f c1 g1 words s (λ h x. absurd x) (λ e h x. absurd x)

no_shape : (depth : ℕ) (f g1 : List ℕ) (words : Words Token Tree) → ((w : List (Cell Token)) (r : List Token) (a : Tree) → words w r a → ⊥) → Shape code depth false f g1 words
no_shape depth f g1 words never = record { empty = λ r a x. absurd (never [] r a x); starts = λ c w r a x. absurd (never (c ∷ w) r a x); keeps = λ w r s a x h. absurd (never w r a x) }

expr_shapes : (h d : ℕ) → Shape code (suc d) false first_expr [] (g.expr h d) × Shape code (suc d) false first_expr [] (g.unary h d)
unfolding g.expr g.unary
expr_shapes zero d = (no_shape (suc d) first_expr [] _ (λ w r a x. x), no_shape (suc d) first_expr [] _ (λ w r a x. x))
expr_shapes (suc h) d =
    let below = expr_shapes h (suc d) in
    let E = shaped (suc d) first_expr clash_expr [] (g.expr h (suc d)) below.0 in
    let U = shaped (suc d) first_expr clash_post [] (g.unary h (suc d)) below.1 in (
      (compare (unread none) (suc d) (suc d) (λ h t. absurd t) false false _ _ (λ _. g.expr h) (λ _. g.unary h) E U).shape 0,
      (operand (unread none) (suc d) (suc d) (λ h t. absurd t) false false _ _ (λ _. g.expr h) (λ _. g.unary h) E U).shape 0,
    )

stand_post : (h d : ℕ) → Law code (unread none) d d false true first_post clash_post [] (r.post (too_deep code first_expr) (too_deep code first_expr)) (λ _. g.post (g.expr h) (g.unary h) d)
stand_post h d =
    let both = expr_shapes h d in
    post (unread none) d d (λ h t. absurd t) false false _ _ (λ _. g.expr h) (λ _. g.unary h) (shaped d first_expr clash_expr [] (g.expr h d) both.0) (shaped d first_expr clash_post [] (g.unary h d) both.1)

stmt_next : (h d : ℕ) → Next code 0 true (9 ∷ 7 ∷ []) (g.post (g.expr h) (g.unary h) d)
stmt_next h d =
    let both = expr_shapes h d in
    next_post (unread none) d d (λ h t. absurd t) false false _ _ (λ _. g.expr h) (λ _. g.unary h) (shaped d first_expr clash_expr [] (g.expr h d) both.0) (shaped d first_expr clash_post [] (g.unary h d) both.1) 0

-- the shape of statements, and what comes second in those that begin with a name
stmt_shapes : (h d : ℕ) → Shape code (suc d) false first_stmt (4 ∷ []) (g.stmt h d) × Second code 0 after_name (g.stmt h d)
unfolding g.stmt
stmt_shapes zero d = (no_shape (suc d) first_stmt (4 ∷ []) _ (λ w r a x. x), record { second = λ c w r a x e. absurd x })
stmt_shapes (suc h) d =
    let below = stmt_shapes h (suc d) in
    let E = shaped (suc d) first_expr clash_expr [] (g.expr h (suc d)) (expr_shapes h (suc d)).0 in
    let S = shaped (suc d) first_stmt [] (4 ∷ []) (g.stmt h (suc d)) below.0 in
    let whole = body (unread none) (suc d) (suc d) (λ h t. absurd t) false false _ _ _ (λ _. g.expr h) (λ _. g.post (g.expr h) (g.unary h)) (λ _. g.stmt h) E (stand_post h (suc d)) S (λ k. below.1) (λ k t. absurd t) in (
      whole.shape 0,
      second_body (unread none) (suc d) (suc d) (λ h t. absurd t) false false _ _ _ (λ _. g.expr h) (λ _. g.post (g.expr h) (g.unary h)) (λ _. g.stmt h) E (stand_post h (suc d)) S (λ k. below.1) (λ k t. absurd t)
          (λ k. stmt_next h (suc d)) 0,
    )

-- ---- some word of each

number_at : (le lu : Lang Token Tree) (d : ℕ) → Least false (g.post le lu d)
unfolding g.post g.prim g.number g.suffixed choice sequence languages.word languages.pure languages.many
number_at le lu d =
    let t : Token = a_token 1 in
    record {
      word = (t, d) ∷ [];
      empty = λ e. absurd cc;
      value = Leaf 0;
      derived = (Leaf 0, (t, d) ∷ [], [], refl, inr (inl (t, (t, d) ∷ [], [], refl, (refl, refl), (refl, refl))), ([], [], [], refl, refl, (refl, refl)));
    }

-- an operand without operators
chain_alone : {A : Type 0} (l : Lang Token Tree) (m : Lang Token A) (f : Tree → List A → Tree) → ((x : Tree) → f x [] ≡ x) → (d : ℕ) → Least false (l d) → Least false (sequence l (λ x. sequence (languages.many m) (λ more. languages.pure (f x more))) d)
unfolding sequence languages.pure languages.many
chain_alone l m f e d y = record {
  word = y.word;
  empty = y.empty;
  value = y.value;
  derived = (y.value, y.word, [], sym (append-nil y.word), y.derived, ([], [], [], refl, refl, (refl, e y.value)));
}

unary_least : (h d : ℕ) → Least false (g.unary (suc h) d)
unfolding g.unary g.operand choice
unary_least h d =
    let x = number_at (g.expr h) (g.unary h) (suc d) in
    record { word = x.word; empty = x.empty; value = x.value; derived = inr x.derived }

expr_least : (h d : ℕ) → Least false (g.expr (suc (suc h)) d)
unfolding g.expr g.compare g.sum
expr_least h d = chain_alone _ _ g.chained (λ x. refl) (suc d) (chain_alone _ _ g.chained (λ x. refl) (suc d) (unary_least h (suc d)))

stmt_least : (h d : ℕ) → Least false (g.stmt (suc h) d)
unfolding g.stmt g.body g.empty choice sequence languages.word languages.pure
stmt_least h d =
    let t : Token = a_token 11 in
    record { word = (t, suc d) ∷ []; empty = λ e. absurd cc; value = g.nil; derived = inr (inl (t, (t, suc d) ∷ [], [], refl, (refl, refl), (refl, refl))) }

-- ---- each first token begins one: by laws of stand-ins of which a word is known

abbrev any : ℕ → Type 0
any h = Unit {0}

abbrev known : (d : ℕ) (f c1 g1 : List ℕ) (words : Words Token Tree) → Shape code (suc d) false f g1 words → Least false words → Law code (unread any) d d false false f c1 g1 (too_deep code f) (λ h. words)
known d f c1 g1 words s y = stand_in any false d f c1 g1 words s (λ h x. y) (λ e h x. not_so _ e)

unary_opens : (h d : ℕ) → Opens code (g.unary (suc (suc (suc h))) d) first_expr
unfolding g.unary
unary_opens h d =
    let both = expr_shapes (suc (suc h)) (suc d) in
    let E = known (suc d) first_expr clash_expr [] (g.expr (suc (suc h)) (suc d)) both.0 (expr_least h (suc d)) in
    let U = known (suc d) first_expr clash_post [] (g.unary (suc (suc h)) (suc d)) both.1 (unary_least (suc h) (suc d)) in
    (operand (unread any) (suc d) (suc d) (λ h t. absurd t) false false _ _ (λ _. g.expr (suc (suc h))) (λ _. g.unary (suc (suc h))) E U).opens 0 tt refl

expr_opens : (h d : ℕ) → Opens code (g.expr (suc (suc (suc (suc h)))) d) first_expr
unfolding g.expr
expr_opens h d =
    let both = expr_shapes (suc (suc (suc h))) (suc d) in
    let E = known (suc d) first_expr clash_expr [] (g.expr (suc (suc (suc h))) (suc d)) both.0 (expr_least (suc h) (suc d)) in
    let U = stand_in any true (suc d) first_expr clash_post [] (g.unary (suc (suc (suc h))) (suc d)) both.1 (λ k x. unary_least (suc (suc h)) (suc d)) (λ e k x. unary_opens h (suc d)) in
    (compare (unread any) (suc d) (suc d) (λ h t. absurd t) false true _ _ (λ _. g.expr (suc (suc (suc h)))) (λ _. g.unary (suc (suc (suc h)))) E U).opens 0 tt refl

stmt_opens : (h d : ℕ) → Opens code (g.stmt (suc (suc (suc h))) d) first_stmt × OpensWith code 0 after_name (λ k. Unit {0}) (g.stmt (suc (suc (suc h))) d)
unfolding g.stmt
stmt_opens h d =
    let n : ℕ = suc (suc h) in
    let both = expr_shapes n (suc d) in
    let E = known (suc d) first_expr clash_expr [] (g.expr n (suc d)) both.0 (expr_least h (suc d)) in
    let U = known (suc d) first_expr clash_post [] (g.unary n (suc d)) both.1 (unary_least (suc h) (suc d)) in
    let s = stmt_shapes n (suc d) in
    let S = known (suc d) first_stmt [] (4 ∷ []) (g.stmt n (suc d)) s.0 (stmt_least (suc h) (suc d)) in
    let O = post (unread any) (suc d) (suc d) (λ h t. absurd t) false false _ _ (λ _. g.expr n) (λ _. g.unary n) E U in (
      (body (unread any) (suc d) (suc d) (λ h t. absurd t) false false _ _ _ (λ _. g.expr n) (λ _. g.post (g.expr n) (g.unary n)) (λ _. g.stmt n) E O S (λ k. s.1) (λ k t. absurd t)).opens 0 tt refl,
      opens_body (unread any) (suc d) (suc d) (λ h t. absurd t) false false _ _ _ (λ _. g.expr n) (λ _. g.post (g.expr n) (g.unary n)) (λ _. g.stmt n) E O S (λ k. s.1) (λ k t. absurd t) 0 tt
          (alone_post (unread any) (suc d) (suc d) (λ h t. absurd t) false false _ _ (λ _. g.expr n) (λ _. g.unary n) E U 0 tt)
          (opens_post (unread any) (suc d) (suc d) (λ h t. absurd t) false false _ _ (λ _. g.expr n) (λ _. g.unary n) E U 0 tt),
    )

-- ---- the levels

-- heights that suffice where so many levels are left
abbrev pub heights : ℕ → Heights
heights n = record { some = λ h. 4 + n ≤ h; tall = λ h. 4 + n ≤ h; is_some = λ h t. t }

at_four : (P : ℕ → Type 0) → ((h : ℕ) → P (suc (suc (suc (suc h))))) → (h : ℕ) → 4 + 0 ≤ h → P h
at_four P f h le = let e : suc (suc (suc (suc (h - 4)))) ≡ h = omega arith in subst P e (f (h - 4))

one_lower : (n h : ℕ) → 4 + suc n ≤ h → Rattle.grammar_laws.proofs.Settle.Above (λ h. 4 + n ≤ h) h
one_lower n zero le = absurd (omega arith)
one_lower n (suc h) le = omega arith

abbrev ExprLaw : ℕ → ℕ → ℕ → Type 0
ExprLaw n limit d = Law code (heights n) limit (suc d) false true first_expr clash_expr [] (r.expr n) (λ h. g.expr h d)

abbrev UnaryLaw : ℕ → ℕ → ℕ → Type 0
UnaryLaw n limit d = Law code (heights n) limit (suc d) false true first_expr clash_post [] (r.unary n) (λ h. g.unary h d)

expr_laws : (n limit d : ℕ) → d + n ≡ limit → ExprLaw n limit d × UnaryLaw n limit d
unfolding r.expr r.unary g.expr g.unary
expr_laws zero limit d e = (
  grow clash_expr [] refl refl (depth_end Token Tree code (heights 0) limit (suc d) first_expr [] (λ h. g.expr h d) (λ h. (expr_shapes h d).0) (omega arith) (at_four (λ h. Least false (g.expr h d)) (λ h. expr_least (suc (suc h)) d)) true
      (λ h t o. at_four (λ h. Opens code (g.expr h d) first_expr) (λ h. expr_opens h d) h t) (λ h t. refl)),
  grow clash_post [] refl refl (depth_end Token Tree code (heights 0) limit (suc d) first_expr [] (λ h. g.unary h d) (λ h. (expr_shapes h d).1) (omega arith) (at_four (λ h. Least false (g.unary h d)) (λ h. unary_least (suc (suc (suc h))) d)) true
      (λ h t o. at_four (λ h. Opens code (g.unary h d) first_expr) (λ h. unary_opens (suc h) d) h t) (λ h t. refl)),
)
expr_laws (suc n) limit d e =
    let below = expr_laws n limit (suc d) (omega arith) in
    let E = lower (suc d) (omega arith) below.0 in
    let U = lower (suc d) (omega arith) below.1 in
    let at : suc d ≤ limit = omega arith in
    let whole = compare (heights n) limit (suc d) (λ h t. at) true true (r.expr n) (r.unary n) g.expr g.unary E U in
    let part = operand (heights n) limit (suc d) (λ h t. at) true true (r.expr n) (r.unary n) g.expr g.unary E U in (
      fewer (one_lower n) (one_lower n) (up Token Tree code (heights n) limit (suc d) false true first_expr clash_expr [] (r.expr (suc n)) (λ h. g.expr (suc h) d) (λ h. g.expr h d) whole (λ w r a x. x) (λ h w r a x. x) (λ h w r a x. x)),
      fewer (one_lower n) (one_lower n) (up Token Tree code (heights n) limit (suc d) false true first_expr clash_post [] (r.unary (suc n)) (λ h. g.unary (suc h) d) (λ h. g.unary h d) part (λ w r a x. x) (λ h w r a x. x) (λ h w r a x. x)),
    )

StmtLaw : ℕ → ℕ → ℕ → Type 0
StmtLaw n limit d = Law code (heights n) limit (suc d) false true first_stmt [] (4 ∷ []) (r.stmt n) (λ h. g.stmt h d)

-- what a name at the start of a statement goes on with, at heights that suffice
opens_with : (n d h : ℕ) → 4 + n ≤ h → OpensWith code 0 after_name (λ k. Unit {0}) (g.stmt h d)
opens_with n d h le = at_four (λ h. OpensWith code 0 after_name (λ k. Unit {0}) (g.stmt h d)) (λ h. (stmt_opens (suc h) d).1) h (omega arith)

post_at : (n limit d : ℕ) → d + n ≡ limit → Law code (heights n) limit d false true first_post clash_post [] (r.post (r.expr n) (r.unary n)) (λ h. g.post (g.expr h) (g.unary h) d)
post_at n limit d e =
    let below = expr_laws n limit d e in
    let at : d ≤ limit = omega arith in
    post (heights n) limit d (λ h t. at) true true (r.expr n) (r.unary n) g.expr g.unary (lower d (omega arith) below.0) (lower d (omega arith) below.1)

stmt_laws : (n limit d : ℕ) → d + n ≡ limit → StmtLaw n limit d
unfolding StmtLaw r.stmt g.stmt
stmt_laws zero limit d e =
    depth_end Token Tree code (heights 0) limit (suc d) first_stmt (4 ∷ []) (λ h. g.stmt h d) (λ h. (stmt_shapes h d).0) (omega arith) (at_four (λ h. Least false (g.stmt h d)) (λ h. stmt_least (suc (suc (suc h))) d)) true
    (λ h t o. at_four (λ h. Opens code (g.stmt h d) first_stmt) (λ h. (stmt_opens (suc h) d).0) h t) (λ h t. refl)
stmt_laws (suc n) limit d e =
    let at : suc d ≤ limit = omega arith in
    let E = lower (suc d) (omega arith) (expr_laws n limit (suc d) (omega arith)).0 in
    let S = lower (suc d) (omega arith) (stmt_laws n limit (suc d) (omega arith)) in
    let O = post_at n limit (suc d) (omega arith) in
    let whole = body (heights n) limit (suc d) (λ h t. at) true true (r.expr n) (r.post (r.expr n) (r.unary n)) (r.stmt n) g.expr (λ h. g.post (g.expr h) (g.unary h)) g.stmt E O S (λ h. (stmt_shapes h (suc d)).1) (opens_with n (suc d)) in
    fewer (one_lower n) (one_lower n) (up Token Tree code (heights n) limit (suc d) false true first_stmt [] (4 ∷ []) (r.stmt (suc n)) (λ h. g.stmt (suc h) d) (λ h. g.stmt h d) whole (λ w r a x. x) (λ h w r a x. x) (λ h w r a x. x))

-- the whole file, at each limit
pub file_law : (limit : ℕ) → Law code (heights limit) limit 0 true true (5 ∷ []) (5 ∷ []) [] (r.blocks limit) (λ h. g.file h 0)
unfolding StmtLaw r.blocks g.file
file_law limit =
    let E = lower 0 (omega arith) (expr_laws limit limit 0 (omega arith)).0 in
    let S = lower 0 (omega arith) (stmt_laws limit limit 0 (omega arith)) in
    let O = post_at limit limit 0 (omega arith) in
    let one = block (heights limit) limit 0 (λ h t. omega arith) true true (r.expr limit) (r.post (r.expr limit) (r.unary limit)) (r.stmt limit) g.expr (λ h. g.post (g.expr h) (g.unary h)) g.stmt E O S (λ h. (stmt_shapes h 0).1) (opens_with limit 0) in
    many (5 ∷ []) _ 0 one refl refl refl refl

pub enough : (limit : ℕ) → (h : ℕ) × (heights limit).tall h
enough limit = (4 + limit, omega arith)
