-- One token of several, as it is taken at once.
use Rattle.std.proofs.Common.{◌≡◌, is_some, ℕ, suc, ◌-◌, ◌<◌, ◌≤◌, get_or, take, drop, arith, Bool, true, false, List, [], ◌∷◌, length, Ok, Err, Option, Some, None, refl, sym, ap, cond, ◌∙◌, inl, inr}
use Rattle.std.specs.Prelude.{◌==◌, ◌||◌}
use Rattle.std.proofs.Math.Seq.{take-length}
use Rattle.std.proofs.lemmas.Bool.{eq-eqb, ne_eqb}
use Rattle.std.proofs.lemmas.Bool.Decides.{eqb_tells}
use Rattle.vera_ast.specs.declared.token.Token.{Token}
use Rattle.grammar_laws.specs.declared.fault.Fault.TheVariants.{Stop}
use Rattle.grammar_laws.specs.declared.fault.Why.TheVariants.{Syntax}
use Rattle.grammar_laws.specs.Words.{member}
use Rattle.grammar_laws.specs.Readers.{Outcome, and_then}
use Rattle.grammar_laws.specs.Readers as readers
use Rattle.parse_cursor.specs.Tokens.{kind_of, name_at}
use Rattle.parse_cursor.specs.TokenReading as r
use Rattle.parse_cursor.specs.TokenReading.{meaning_of, codes_of}

-- a slice by its first token, and one without
pub front : (ts : List Token) (t : Token) → 1 ≤ length ts → t ≡ get_or ts 0 t → ts ≡ t ∷ take (length ts - 1) (drop 1 ts)
front [] t le e = absurd (omega arith)
front (x ∷ xs) t le e =
    let k : suc (length xs) - 1 ≡ length xs = omega arith in
    ap (λ (l : List Token). x ∷ l) (sym (take-length xs) ∙ ap (λ (n : ℕ). take n xs) (sym k)) ∙ ap (λ (y : Token). y ∷ take (suc (length xs) - 1) xs) (sym e)

pub no_front : (ts : List Token) → length ts < 1 → ts ≡ []
no_front [] lt = refl
no_front (x ∷ xs) lt = absurd (omega arith)

-- what is taken where the test holds
abbrev taken : {A : Type 0} → Bool → A → Token → List Token → Outcome Token A
taken b a t ts = cond b (Ok (a, ts)) (Err (Stop Syntax (length (t ∷ ts))))

or_end : (b : Bool) → (b || false) ≡ b
or_end true = refl
or_end false = refl

symmetric : (a b : ℕ) → (a == b) ≡ (b == a)
symmetric a b = elim (eqb_tells a b) [
  | inl e ↦ e.0 ∙ sym (eq-eqb b a (sym e.1))
  | inr e ↦ e.0 ∙ sym (ne_eqb b a (λ same. e.1 (sym same)))
]

word_is : (c : ℕ) (t : Token) (ts : List Token) → readers.word kind_of c (t ∷ ts) ≡ taken (c == kind_of t) t t ts
unfolding readers.word
word_is c t ts = ap (λ (b : Bool). taken b t t ts) (symmetric (kind_of t) c)

step : {A : Type 0} (b m : Bool) (a : A) (t : Token) (ts : List Token) (o p : Outcome Token A) → o ≡ taken b a t ts → p ≡ taken m a t ts → cond (b || false) o p ≡ taken (b || m) a t ts
step true m a t ts o p e f = e
step false m a t ts o p e f = f

one_of_is : (cs : List ℕ) (t : Token) (ts : List Token) → r.one_of cs (t ∷ ts) ≡ taken (member cs (kind_of t)) t t ts
unfolding r.one_of readers.either
one_of_is [] t ts = refl
one_of_is (c ∷ []) t ts = word_is c t ts ∙ ap (λ (b : Bool). taken b t t ts) (sym (or_end (c == kind_of t)))
one_of_is (c ∷ k ∷ more) t ts = step (c == kind_of t) (member (k ∷ more) (kind_of t)) t t ts (readers.word kind_of c (t ∷ ts)) (r.one_of (k ∷ more) (t ∷ ts)) (word_is c t ts) (one_of_is (k ∷ more) t ts)

one_of_end : (cs : List ℕ) → r.one_of cs [] ≡ Err (Stop Syntax 0)
unfolding r.one_of readers.either readers.word
one_of_end [] = refl
one_of_end (c ∷ []) = refl
one_of_end (c ∷ k ∷ more) = one_of_end (k ∷ more)

pub name_of_first : (cs : List ℕ) (t : Token) (ts : List Token) → member cs (kind_of t) ≡ true → r.name_of cs (t ∷ ts) ≡ Ok (name_at t, ts)
unfolding r.name_of and_then
name_of_first cs t ts m = rw (one_of_is cs t ts, m) refl

pub name_of_none : (cs : List ℕ) (t : Token) (ts : List Token) → member cs (kind_of t) ≡ false → r.name_of cs (t ∷ ts) ≡ Err (Stop Syntax (length (t ∷ ts)))
unfolding r.name_of and_then
name_of_none cs t ts m = rw (one_of_is cs t ts, m) refl

pub name_of_end : (cs : List ℕ) → r.name_of cs [] ≡ Err (Stop Syntax 0)
unfolding r.name_of and_then
name_of_end cs = rw (one_of_end cs) refl

-- ---- with what the tokens mean

abbrev signed : {A : Type 0} → Option A → Token → List Token → Outcome Token (ℕ × A)
signed (Some a) t ts = Ok ((t.line, a), ts)
signed None t ts = Err (Stop Syntax (length (t ∷ ts)))

one_sign : {A : Type 0} (s : ℕ × A) (t : Token) (ts : List Token) → and_then (r.word s.0 (t ∷ ts)) (λ line r. Ok ((line, s.1), r)) ≡ signed (cond (s.0 == kind_of t) (Some s.1) None) t ts
unfolding r.word and_then
one_sign {A} s t ts = rw (word_is s.0 t ts) (go (s.0 == kind_of t))
  where
    go : (b : Bool) → and_then (and_then (taken b t t ts) (λ t r. Ok (t.line, r))) (λ line r. Ok ((line, s.1), r)) ≡ signed (cond b (Some s.1) None) t ts
    go true = refl
    go false = refl

sign_step : {A : Type 0} (b : Bool) (a : A) (m : Option A) (t : Token) (ts : List Token) (o p : Outcome Token (ℕ × A)) → o ≡ signed (cond b (Some a) None) t ts → p ≡ signed m t ts → cond (b || false) o p ≡ signed (cond b (Some a) m) t ts
sign_step true a m t ts o p e f = e
sign_step false a m t ts o p e f = f

sign_is : {A : Type 0} (table : List (ℕ × A)) (t : Token) (ts : List Token) → r.sign table (t ∷ ts) ≡ signed (meaning_of table (kind_of t)) t ts
unfolding r.sign readers.either
sign_is [] t ts = refl
sign_is (s ∷ []) t ts = one_sign s t ts
sign_is (s ∷ u ∷ more) t ts =
    sign_step (s.0 == kind_of t) s.1 (meaning_of (u ∷ more) (kind_of t)) t ts (and_then (r.word s.0 (t ∷ ts)) (λ line r. Ok ((line, s.1), r))) (r.sign (u ∷ more) (t ∷ ts)) (one_sign s t ts) (sign_is (u ∷ more) t ts)

pub sign_first : {A : Type 0} (table : List (ℕ × A)) (a : A) (t : Token) (ts : List Token) → meaning_of table (kind_of t) ≡ Some a → r.sign table (t ∷ ts) ≡ Ok ((t.line, a), ts)
sign_first table a t ts m = sign_is table t ts ∙ ap (λ (o : Option _). signed o t ts) m

pub sign_none : {A : Type 0} (table : List (ℕ × A)) (t : Token) (ts : List Token) → meaning_of table (kind_of t) ≡ None → r.sign table (t ∷ ts) ≡ Err (Stop Syntax (length (t ∷ ts)))
sign_none table t ts m = sign_is table t ts ∙ ap (λ (o : Option _). signed o t ts) m

pub sign_end : {A : Type 0} (table : List (ℕ × A)) → r.sign table [] ≡ Err (Stop Syntax 0)
unfolding r.sign readers.either readers.word r.word and_then
sign_end [] = refl
sign_end (s ∷ []) = refl
sign_end (s ∷ u ∷ more) = sign_end (u ∷ more)

-- a token that is one of a table's
pub means_something : {A : Type 0} (table : List (ℕ × A)) (c : ℕ) → is_some (meaning_of table c) ≡ member (codes_of table) c
means_something [] c = refl
means_something (s ∷ more) c = elim (s.0 == c) as (λ b. is_some (cond b (Some s.1) (meaning_of more c)) ≡ (b || member (codes_of more) c)) [ true ↦ refl | false ↦ means_something more c ]
