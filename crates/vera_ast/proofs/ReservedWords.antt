-- Each reserved word is found at its own place, and no other word is found.
use Rattle.std.proofs.Common.{◌≡◌, ℕ, zero, suc, ◌+◌, ◌<◌, ◌≤◌, ◌==◌, ◌&&◌, Bool, true, false, List, [], ◌∷◌, length, get_or, map, refl, sym, ap, subst, ◌∙◌, ◌⊎◌, inl, inr, arith, Bor}
use Rattle.std.proofs.Math.Dec.{leb}
use Rattle.std.proofs.lemmas.Bool.{eqb-true, leb-true, leb-false}
use Rattle.std.proofs.lemmas.List.{get_or_past}
use Rattle.std.proofs.lemmas.Slice.Eq.{bytes_eq-Decides}
use Rattle.std.specs.Str.{bytes_eq}
use Rattle.vera_ast.specs.Words.{reserved_words}
use Rattle.vera_ast.specs.Codes.{number_from, word_code}
use Rattle.vera_ast.specs.Slots.{place_of}

both : (a b : Bool) → (a && b) ≡ true → (a ≡ true) × (b ≡ true)
both true b e = (refl, e)
both false b e = cc

bool_cases : (b : Bool) → (b ≡ true) ⊎ (b ≡ false)
bool_cases true = inl refl
bool_cases false = inr refl

-- a test of each word and its place
abbrev each : (ℕ → List ℕ → Bool) → ℕ → List (List ℕ) → Bool
each p n [] = true
each p n (x ∷ xs) = p n x && each p (suc n) xs

each_at : (p : ℕ → List ℕ → Bool) (n : ℕ) (xs : List (List ℕ)) (i : ℕ) → i < length xs → each p n xs ≡ true → p (n + i) (get_or xs i []) ≡ true
each_at p n [] i lt e = absurd (omega arith)
each_at p n (x ∷ xs) zero lt e =
    let same : n + 0 ≡ n = omega arith in
    rw same (both (p n x) (each p (suc n) xs) e).0
each_at p n (x ∷ xs) (suc i) lt e =
    let same : n + suc i ≡ suc n + i = omega arith in
    rw same (each_at p (suc n) xs i (omega arith) (both (p n x) (each p (suc n) xs) e).1)

abbrev good : ℕ → List ℕ → Bool
good n w = (place_of w == n) && (leb 2 (length w) && (leb (length w) 14 && (word_code w == 51 + n)))

all_good : each good 0 reserved_words ≡ true
unfolding word_code
all_good = refl

record Good (i : ℕ) (w : List ℕ) : Type 0 where
  placed : place_of w ≡ i
  not_short : 2 ≤ length w
  not_long : length w ≤ 14
  coded : word_code w ≡ 51 + i

is_good : (i : ℕ) → i < length reserved_words → Good i (get_or reserved_words i [])
is_good i lt =
    let w = get_or reserved_words i [] in
    let start : 0 + i ≡ i = omega arith in
    let e : good i w ≡ true = subst (λ (n : ℕ). good n w ≡ true) start (each_at good 0 reserved_words i lt all_good) in
    let one = both (place_of w == i) (leb 2 (length w) && (leb (length w) 14 && (word_code w == 51 + i))) e in
    let two = both (leb 2 (length w)) (leb (length w) 14 && (word_code w == 51 + i)) one.1 in
    let three = both (leb (length w) 14) (word_code w == 51 + i) two.1 in
    record { placed = eqb-true (place_of w) i one.0; not_short = leb-true 2 (length w) two.0; not_long = leb-true (length w) 14 three.0; coded = eqb-true (word_code w) (51 + i) three.1 }

numbered : (n : ℕ) (xs : List (List ℕ)) (w : List ℕ) → (number_from n xs w ≡ 48) ⊎ ((i : ℕ) × (i < length xs) × (get_or xs i [] ≡ w))
numbered n [] w = inl refl
numbered n (x ∷ xs) w = elim (bool_cases (bytes_eq x w)) [
  | inl e ↦ inr (zero, omega arith, (bytes_eq-Decides x w).0 e)
  | inr e ↦ elim (numbered (suc n) xs w) [
    | inl h ↦ inl (rw e h)
    | inr h ↦ inr (suc h.0, omega arith, h.2)
  ]
]

-- a word is a name, or a reserved word
cases : (w : List ℕ) → (word_code w ≡ 48) ⊎ ((i : ℕ) × (i < length reserved_words) × (get_or reserved_words i [] ≡ w))
unfolding word_code
cases w = numbered 51 reserved_words w

good_word : (w : List ℕ) (i : ℕ) → i < length reserved_words → get_or reserved_words i [] ≡ w → Good i w
good_word w i lt e = subst (λ (x : List ℕ). Good i x) e (is_good i lt)

pub other_length : (w : List ℕ) → (length w < 2) ⊎ ((2 ≤ length w) × (14 < length w)) → 48 ≡ word_code w
other_length w e = elim (cases w) [
  | inl h ↦ sym h
  | inr h ↦
      let g = good_word w h.0 h.1 h.2 in
      let short = g.not_short in
      let long = g.not_long in
      elim e [ inl lt ↦ absurd (omega arith) | inr gt ↦ absurd (omega arith) ]
]

-- what stands at its place is no reserved word past the end of the list
pub within : (w : List ℕ) (i : ℕ) → 2 ≤ length w → get_or reserved_words i [] ≡ w → i < 84
within w i le e = elim (leb_or i) [ inl lt ↦ lt | inr past ↦ absurd (no_word past) ]
  where
    leb_or : (i : ℕ) → (i < 84) ⊎ (84 ≤ i)
    leb_or i = elim (bool_cases (leb 84 i)) [ inl h ↦ inr (leb-true 84 i h) | inr h ↦ inl (leb-false 84 i h) ]

    no_word : 84 ≤ i → ⊥
    no_word past =
        let none : [] ≡ w = sym (get_or_past reserved_words i [] past) ∙ e in
        let short : length w ≡ 0 = sym (ap (λ (x : List ℕ). length x) none) in
        omega arith

pub equal : (a w : List ℕ) (answer : Bool) → answer ≡ bytes_eq a w → answer ≡ true → a ≡ w
equal a w answer is e = (bytes_eq-Decides a w).0 (sym is ∙ e)

pub differs : (a w : List ℕ) (answer : Bool) → answer ≡ bytes_eq a w → answer ≡ false → a ≡ w → ⊥
differs a w answer is e same =
    let yes : answer ≡ true = is ∙ (bytes_eq-Decides a w).1 same in
    cc

pub found : (w : List ℕ) (i : ℕ) → 2 ≤ length w → get_or reserved_words i [] ≡ w → 51 + i ≡ word_code w
found w i le e = let g = good_word w i (within w i le e) e in sym g.coded

pub not_found : (w : List ℕ) (p : ℕ) → p ≡ place_of w → (get_or reserved_words p [] ≡ w → ⊥) → 48 ≡ word_code w
not_found w p placed other = elim (cases w) [
  | inl h ↦ sym h
  | inr h ↦
      let g = good_word w h.0 h.1 h.2 in
      let same : p ≡ h.0 = placed ∙ g.placed in
      absurd (other (ap (λ (i : ℕ). get_or reserved_words i []) same ∙ h.2))
]

pub now_at : (refs : List (Bor (List ℕ))) (i : ℕ) (d : Bor (List ℕ)) → (get_or refs i d).now ≡ get_or (map (λ (r : Bor (List ℕ)). r.now) refs) i d.now
now_at [] i d = refl
now_at (r ∷ refs) zero d = refl
now_at (r ∷ refs) (suc i) d = now_at refs i d
