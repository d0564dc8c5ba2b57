-- The laws of expressions at each depth, by recursion on the levels that are left.
use Rattle.std.proofs.Common.{◌≡◌, ℕ, zero, suc, ◌+◌, ◌-◌, ◌≤◌, true, false, List, [], ◌∷◌, refl, sym, subst, arith, inl, inr, None}
use Rattle.std.proofs.lemmas.List.{append-nil}
use Rattle.vera_ast.specs.declared.codes.TheConstants as code
use Rattle.vera_ast.specs.declared.token.Token.{Token}
use Rattle.vera_ast.specs.declared.tree.expressions.Expr.{Expr}
use Rattle.vera_ast.specs.declared.tree.expressions.ChainOperator.{ChainOperator}
use Rattle.vera_ast.specs.declared.tree.expressions.Expr.TheViews as node
use Rattle.vera_ast.specs.declared.tree.expressions.Primary.{Primary}
use Rattle.vera_ast.specs.declared.tree.expressions.PrimaryForm.TheVariants as form
use Rattle.grammar_laws.specs.Words.{Cell}
use Rattle.grammar_laws.specs.Languages.{Lang, sequence, choice}
use Rattle.grammar_laws.specs.Languages as languages
use Rattle.grammar_laws.specs.Readers.{too_deep}
use Rattle.parse_cursor.specs.Tokens as t
use Rattle.parse_cursor.specs.Tokens.{kind_of}
use Rattle.parse_exprs.specs.Expressions as g
use Rattle.parse_exprs.specs.ExpressionReading as r
use Rattle.parse_exprs.specs.Operators.{chained}
use Rattle.parse_exprs.specs.Sets.{first_post, first_free, first_expr}
use Rattle.parse_cursor.proofs.Samples.{a_token, of_kind}
use Rattle.parse_exprs.proofs.ExpressionLaws.{clash_post, clash_expr, whole, operand, free, post}
use Rattle.grammar_laws.proofs.Law.{Words, Shape, Heights, Opens, Law, Least}
use Rattle.grammar_laws.proofs.Knot.{depth_end, stand_in, unread}
use Rattle.grammar_laws.proofs.Settle.{grow, up, lower, fewer, Above}

-- ---- the shape of words, by laws of stand-ins of which only the words' shape counts

abbrev pub none : ℕ → Type 0
none h = ⊥

abbrev pub shaped : {A : Type 0} (d : ℕ) (f c1 g1 : List ℕ) (words : Words Token A) → Shape kind_of (suc d) false f g1 words → Law kind_of (unread none) d d false false f c1 g1 (too_deep kind_of f) (λ h. words)
shaped d f c1 g1 words s = stand_in none false d f c1 g1 words s (λ h x. absurd x) (λ e h x. absurd x)

pub no_shape : {A : Type 0} (depth : ℕ) (f g1 : List ℕ) (words : Words Token A) → ((w : List (Cell Token)) (r : List Token) (a : A) → words w r a → ⊥) → Shape kind_of depth false f g1 words
no_shape depth f g1 words never = record { empty = λ r a x. absurd (never [] r a x); starts = λ c w r a x. absurd (never (c ∷ w) r a x); keeps = λ w r s a x h. absurd (never w r a x) }

pub expr_shapes : (h d : ℕ) → Shape kind_of (suc d) false first_expr [] (g.expr h d) × Shape kind_of (suc d) false first_expr [] (g.unary h d)
unfolding g.expr g.unary
expr_shapes zero d = (no_shape (suc d) first_expr [] _ (λ w r a x. x), no_shape (suc d) first_expr [] _ (λ w r a x. x))
expr_shapes (suc h) d =
    let below = expr_shapes h (suc d) in
    let E = shaped (suc d) first_expr clash_expr [] (g.expr h (suc d)) below.0 in
    let U = shaped (suc d) first_expr clash_post [] (g.unary h (suc d)) below.1 in (
      (whole (unread none) (suc d) (suc d) (λ h t. absurd t) false false _ _ (λ _. g.expr h) (λ _. g.unary h) E U).shape 0,
      (operand (unread none) (suc d) (suc d) (λ h t. absurd t) false false _ _ (λ _. g.expr h) (λ _. g.unary h) E U).shape 0,
    )

-- ---- some word of each

abbrev a_number : Token
a_number = a_token code.NUMBER

abbrev its_primary : Primary
its_primary = record { line = 1; form = form.Number (t.numeral_at a_number).number }

-- a number without suffixes
pub free_least : (le lu : Lang Token Expr) (d : ℕ) → Least false (g.free le lu d)
unfolding g.free g.prim g.start g.literal g.suffixed t.number choice sequence languages.word languages.pure languages.many
free_least le lu d = record {
  word = (a_number, d) ∷ [];
  empty = λ e. absurd cc;
  value = record { line = 1; primary = its_primary; suffixes = [] };
  derived = (
    its_primary,
    (a_number, d) ∷ [],
    [],
    refl,
    inl (inl (t.numeral_at a_number, (a_number, d) ∷ [], [], refl, (a_number, (a_number, d) ∷ [], [], refl, (refl, of_kind code.NUMBER refl), (refl, refl)), (refl, refl))),
    ([], [], [], refl, refl, (refl, refl)),
  );
}

pub unary_least : (h d : ℕ) → Least false (g.unary (suc h) d)
unfolding g.unary g.operand choice sequence languages.pure
unary_least h d =
    let x = free_least (g.expr h) (g.unary h) (suc d) in
    record { word = x.word; empty = x.empty; value = node.Postfix x.value; derived = inr (x.value, x.word, [], sym (append-nil x.word), x.derived, (refl, refl)) }

-- an operand without operators
alone : (operators : List (ℕ × ChainOperator)) (l : Lang Token Expr) (d : ℕ) → Least false (l d) → Least false (g.level operators l d)
unfolding g.level chained sequence languages.pure languages.many
alone operators l d y = record { word = y.word; empty = y.empty; value = y.value; derived = (y.value, y.word, [], sym (append-nil y.word), y.derived, ([], [], [], refl, refl, (refl, refl))) }

logical_or_least : (le lu : Lang Token Expr) (d : ℕ) → Least false (lu d) → Least false (g.logical_or le lu d)
unfolding g.product g.sum g.shift g.order g.equality g.bit_and g.bit_xor g.bit_or g.logical_and g.logical_or
logical_or_least le lu d y = alone _ _ d (alone _ _ d (alone _ _ d (alone _ _ d (alone _ _ d (alone _ _ d (alone _ _ d (alone _ _ d (alone _ _ d (alone _ _ d y)))))))))

pub expr_least : (h d : ℕ) → Least false (g.expr (suc (suc h)) d)
unfolding g.expr g.whole choice sequence languages.pure
expr_least h d =
    let y = logical_or_least (g.expr (suc h)) (g.unary (suc h)) (suc d) (unary_least h (suc d)) in
    record { word = y.word; empty = y.empty; value = y.value; derived = (y.value, y.word, [], sym (append-nil y.word), y.derived, (None, [], [], refl, inr (refl, refl), (refl, refl))) }

-- ---- each first token begins one: by laws of stand-ins of which a word is known

abbrev pub any : ℕ → Type 0
any h = Unit {0}

pub not_so : (P : Type 0) → false ≡ true → P
not_so P e = absurd cc

abbrev pub known : {A : Type 0} (d : ℕ) (f c1 g1 : List ℕ) (words : Words Token A) → Shape kind_of (suc d) false f g1 words → Least false words → Law kind_of (unread any) d d false false f c1 g1 (too_deep kind_of f) (λ h. words)
known d f c1 g1 words s y = stand_in any false d f c1 g1 words s (λ h x. y) (λ e h x. not_so _ e)

pub unary_opens : (h d : ℕ) → Opens kind_of (g.unary (suc (suc (suc h))) d) first_expr
unfolding g.unary
unary_opens h d =
    let both = expr_shapes (suc (suc h)) (suc d) in
    let E = known (suc d) first_expr clash_expr [] (g.expr (suc (suc h)) (suc d)) both.0 (expr_least h (suc d)) in
    let U = known (suc d) first_expr clash_post [] (g.unary (suc (suc h)) (suc d)) both.1 (unary_least (suc h) (suc d)) in
    (operand (unread any) (suc d) (suc d) (λ h t. absurd t) false false _ _ (λ _. g.expr (suc (suc h))) (λ _. g.unary (suc (suc h))) E U).opens 0 tt refl

pub expr_opens : (h d : ℕ) → Opens kind_of (g.expr (suc (suc (suc (suc h)))) d) first_expr
unfolding g.expr
expr_opens h d =
    let both = expr_shapes (suc (suc (suc h))) (suc d) in
    let E = known (suc d) first_expr clash_expr [] (g.expr (suc (suc (suc h))) (suc d)) both.0 (expr_least (suc h) (suc d)) in
    let U = stand_in any true (suc d) first_expr clash_post [] (g.unary (suc (suc (suc h))) (suc d)) both.1 (λ k x. unary_least (suc (suc h)) (suc d)) (λ e k x. unary_opens h (suc d)) in
    (whole (unread any) (suc d) (suc d) (λ h t. absurd t) false true _ _ (λ _. g.expr (suc (suc (suc h)))) (λ _. g.unary (suc (suc (suc h)))) E U).opens 0 tt refl

-- ---- the levels

-- heights that suffice where so many levels are left
abbrev pub heights : ℕ → Heights
heights n = record { some = λ h. 4 + n ≤ h; tall = λ h. 4 + n ≤ h; is_some = λ h t. t }

pub at_four : (P : ℕ → Type 0) → ((h : ℕ) → P (suc (suc (suc (suc h))))) → (h : ℕ) → 4 + 0 ≤ h → P h
at_four P f h le = let e : suc (suc (suc (suc (h - 4)))) ≡ h = omega arith in subst P e (f (h - 4))

pub one_lower : (n h : ℕ) → 4 + suc n ≤ h → Above (λ h. 4 + n ≤ h) h
one_lower n zero le = absurd (omega arith)
one_lower n (suc h) le = omega arith

abbrev pub ExprLaw : ℕ → ℕ → ℕ → Type 0
ExprLaw n limit d = Law kind_of (heights n) limit (suc d) false true first_expr clash_expr [] (r.expr n) (λ h. g.expr h d)

abbrev pub UnaryLaw : ℕ → ℕ → ℕ → Type 0
UnaryLaw n limit d = Law kind_of (heights n) limit (suc d) false true first_expr clash_post [] (r.unary n) (λ h. g.unary h d)

pub expr_laws : (n limit d : ℕ) → d + n ≡ limit → ExprLaw n limit d × UnaryLaw n limit d
unfolding r.expr r.unary g.expr g.unary
expr_laws zero limit d e = (
  grow clash_expr [] refl refl (depth_end Token Expr kind_of (heights 0) limit (suc d) first_expr [] (λ h. g.expr h d) (λ h. (expr_shapes h d).0) (omega arith) (at_four (λ h. Least false (g.expr h d)) (λ h. expr_least (suc (suc h)) d)) true
      (λ h t o. at_four (λ h. Opens kind_of (g.expr h d) first_expr) (λ h. expr_opens h d) h t) (λ h t. refl)),
  grow clash_post [] refl refl (depth_end Token Expr kind_of (heights 0) limit (suc d) first_expr [] (λ h. g.unary h d) (λ h. (expr_shapes h d).1) (omega arith) (at_four (λ h. Least false (g.unary h d)) (λ h. unary_least (suc (suc (suc h))) d)) true
      (λ h t o. at_four (λ h. Opens kind_of (g.unary h d) first_expr) (λ h. unary_opens (suc h) d) h t) (λ h t. refl)),
)
expr_laws (suc n) limit d e =
    let below = expr_laws n limit (suc d) (omega arith) in
    let E = lower (suc d) (omega arith) below.0 in
    let U = lower (suc d) (omega arith) below.1 in
    let at : suc d ≤ limit = omega arith in
    let all = whole (heights n) limit (suc d) (λ h t. at) true true (r.expr n) (r.unary n) g.expr g.unary E U in
    let part = operand (heights n) limit (suc d) (λ h t. at) true true (r.expr n) (r.unary n) g.expr g.unary E U in (
      fewer (one_lower n) (one_lower n) (up Token Expr kind_of (heights n) limit (suc d) false true first_expr clash_expr [] (r.expr (suc n)) (λ h. g.expr (suc h) d) (λ h. g.expr h d) all (λ w r a x. x) (λ h w r a x. x) (λ h w r a x. x)),
      fewer (one_lower n) (one_lower n) (up Token Expr kind_of (heights n) limit (suc d) false true first_expr clash_post [] (r.unary (suc n)) (λ h. g.unary (suc h) d) (λ h. g.unary h d) part (λ w r a x. x) (λ h w r a x. x) (λ h w r a x. x)),
    )

-- expressions, and postfix expressions at the start of a statement and elsewhere, where so many levels are left

pub expr_at : (n limit d : ℕ) → d + n ≡ limit → Law kind_of (heights n) limit d false true first_expr clash_expr [] (r.expr n) (λ h. g.expr h d)
expr_at n limit d e = lower d (omega arith) (expr_laws n limit d e).0

pub post_at : (n limit d : ℕ) → d + n ≡ limit → Law kind_of (heights n) limit d false true first_post clash_post [] (r.post (r.expr n) (r.unary n)) (λ h. g.post (g.expr h) (g.unary h) d)
post_at n limit d e =
    let below = expr_laws n limit d e in
    let at : d ≤ limit = omega arith in
    post (heights n) limit d (λ h t. at) true true (r.expr n) (r.unary n) g.expr g.unary (lower d (omega arith) below.0) (lower d (omega arith) below.1)

pub free_at : (n limit d : ℕ) → d + n ≡ limit → Law kind_of (heights n) limit d false true first_free clash_post [] (r.free (r.expr n) (r.unary n)) (λ h. g.free (g.expr h) (g.unary h) d)
free_at n limit d e =
    let below = expr_laws n limit d e in
    let at : d ≤ limit = omega arith in
    free (heights n) limit d (λ h t. at) true true (r.expr n) (r.unary n) g.expr g.unary (lower d (omega arith) below.0) (lower d (omega arith) below.1)
