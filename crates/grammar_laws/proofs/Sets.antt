-- Sets of codes.
use Rattle.std.proofs.Common.{◌≡◌, ℕ, Bool, true, false, List, [], ◌∷◌, ◌++◌, refl, sym, ap, subst, ◌∙◌, append_assoc, inl, inr}
use Rattle.std.specs.Prelude.{◌⊎◌, ◌==◌, ◌||◌, ◌&&◌, not}
use Rattle.std.proofs.lemmas.Bool.{eqb-true}
use Rattle.grammar_laws.specs.Words.{member, begins, bare, Cell, Within}

abbrev pub disjoint : List ℕ → List ℕ → Bool
disjoint [] ys = true
disjoint (x ∷ xs) ys = not (member ys x) && disjoint xs ys

pub or_false : (a b : Bool) → (a || b) ≡ false → (a ≡ false) × (b ≡ false)
or_false true b e = absurd cc
or_false false b e = (refl, e)

pub or_true : (a b : Bool) → (a || b) ≡ true → (a ≡ true) ⊎ (b ≡ true)
or_true true b e = inl refl
or_true false b e = inr e

pub and_true : (a b : Bool) → (a && b) ≡ true → (a ≡ true) × (b ≡ true)
and_true true b e = (refl, e)
and_true false b e = absurd cc

pub member-append : (xs ys : List ℕ) (c : ℕ) → member (xs ++ ys) c ≡ (member xs c || member ys c)
member-append [] ys c = refl
member-append (x ∷ xs) ys c = elim (x == c) as (λ b. (b || member (xs ++ ys) c) ≡ ((b || member xs c) || member ys c)) [ true ↦ refl | false ↦ member-append xs ys c ]

pub member_left : (xs ys : List ℕ) (c : ℕ) → member xs c ≡ true → member (xs ++ ys) c ≡ true
member_left xs ys c e = rw (member-append, e) refl

pub member_right : (xs ys : List ℕ) (c : ℕ) → member ys c ≡ true → member (xs ++ ys) c ≡ true
member_right xs ys c e = rw (member-append, e) (elim (member xs c) as (λ b. (b || true) ≡ true) [ true ↦ refl | false ↦ refl ])

not_true : (b : Bool) → not b ≡ true → b ≡ false
not_true true e = absurd cc
not_true false e = refl

pub apart : (xs ys : List ℕ) (c : ℕ) → disjoint xs ys ≡ true → member xs c ≡ true → member ys c ≡ false
apart [] ys c d m = absurd cc
apart (x ∷ xs) ys c d m =
    let both = and_true (not (member ys x)) (disjoint xs ys) d in
    elim (or_true (x == c) (member xs c) m) [
      | inl e ↦ let same : x ≡ c = eqb-true x c e in subst (λ (k : ℕ). member ys k ≡ false) same (not_true (member ys x) both.0)
      | inr e ↦ apart xs ys c both.1 e
    ]

pub begins_none : {T : Type 0} (code : T → ℕ) (xs ys : List ℕ) (r : List T) → begins code (xs ++ ys) r ≡ false → (begins code xs r ≡ false) × (begins code ys r ≡ false)
begins_none {T} code xs ys [] e = (refl, refl)
begins_none {T} code xs ys (t ∷ ts) e = or_false (member xs (code t)) (member ys (code t)) (sym (member-append xs ys (code t)) ∙ e)

-- ---- words

pub bare-append : {T : Type 0} (u v : List (Cell T)) → bare (u ++ v) ≡ bare u ++ bare v
bare-append {T} [] v = refl
bare-append {T} (c ∷ u) v = ap (λ (ts : List T). c.0 ∷ ts) (bare-append u v)

pub bare_append_rest : {T : Type 0} (u v : List (Cell T)) (r : List T) → bare (u ++ v) ++ r ≡ bare u ++ (bare v ++ r)
bare_append_rest {T} u v r = rw bare-append (append_assoc (bare u) (bare v) r)

pub Within-append : {T : Type 0} (m : ℕ) (u v : List (Cell T)) → Within m u → Within m v → Within m (u ++ v)
Within-append {T} m [] v hu hv = hv
Within-append {T} m (c ∷ u) v hu hv = (hu.0, Within-append m u v hu.1 hv)

-- both go on with one token
abbrev pub Alike : {T : Type 0} → List T → List T → Type 0
Alike {T} [] r = ⊥
Alike {T} (x ∷ r) [] = ⊥
Alike {T} (x ∷ r) (y ∷ s) = x ≡ y

pub Alike-append : {T : Type 0} (u r s : List T) → Alike r s → Alike (u ++ r) (u ++ s)
Alike-append {T} [] r s h = h
Alike-append {T} (x ∷ u) r s h = refl

pub Alike-refl : {T : Type 0} (t : T) (r s : List T) → Alike (t ∷ r) (t ∷ s)
Alike-refl {T} t r s = refl

-- both go on with one token, or with two
abbrev pub Agree : {T : Type 0} → Bool → List T → List T → Type 0
Agree {T} b [] s = ⊥
Agree {T} b (x ∷ r) [] = ⊥
Agree {T} false (x ∷ r) (y ∷ s) = x ≡ y
Agree {T} true (x ∷ r) (y ∷ s) = (x ≡ y) × Alike r s

pub Agree-alike : {T : Type 0} (b : Bool) (r s : List T) → Agree b r s → Alike r s
Agree-alike {T} b [] s h = h
Agree-alike {T} b (x ∷ r) [] h = h
Agree-alike {T} false (x ∷ r) (y ∷ s) h = h
Agree-alike {T} true (x ∷ r) (y ∷ s) h = h.0

pub Alike-agree : {T : Type 0} (r s : List T) → Alike r s → Agree false r s
Alike-agree {T} [] s h = h
Alike-agree {T} (x ∷ r) [] h = h
Alike-agree {T} (x ∷ r) (y ∷ s) h = h

-- two tokens are more than one
pub Agree-fewer : {T : Type 0} (b : Bool) (r s : List T) → Agree true r s → Agree b r s
Agree-fewer {T} true r s h = h
Agree-fewer {T} false r s h = Alike-agree r s (Agree-alike true r s h)

pub Agree-append : {T : Type 0} (b : Bool) (r s v : List T) → Agree b r s → Agree b r (s ++ v)
Agree-append {T} b [] s v h = h
Agree-append {T} b (x ∷ r) [] v h = absurd h
Agree-append {T} false (x ∷ r) (y ∷ s) v h = h
Agree-append {T} true (x ∷ []) (y ∷ s) v h = absurd h.1
Agree-append {T} true (x ∷ k ∷ r) (y ∷ []) v h = absurd h.1
Agree-append {T} true (x ∷ k ∷ r) (y ∷ j ∷ s) v h = h
