-- The longest sign at the front of a text.
use Rattle.std.proofs.Common.{◌≡◌, ℕ, zero, suc, ◌<◌, ◌≤◌, Bool, true, false, List, [], ◌∷◌, length, take, get_or, refl, sym, ap, subst, arith, inl, inr}
use Rattle.std.specs.Prelude.{◌==◌, ◌||◌, ◌&&◌, nat_le, is_some}
use Rattle.std.specs.Str.{bytes_eq}
use Rattle.std.specs.List.{list_any}
use Rattle.std.specs.Cmp.Lexicographic.{same_text}
use Rattle.std.proofs.lemmas.Bool.{eqb-true}
use Rattle.std.proofs.lemmas.Bool.Decides.{nat_tests}
use Rattle.vera_ast.specs.Signs.{signs}
use Rattle.vera_lex.specs.Forms.{sign_number}
use Rattle.vera_lex.specs.Refusals.{opens_sign}
use Rattle.vera_lex.specs.Reading.{sign_length}
use Rattle.vera_lex.proofs.Digits.{bool_cases, not_both}
use Rattle.vera_lex.proofs.Runs.{and_true, or_true, is_false, one_of, is_one}

abbrev all_texts : (List ℕ → Bool) → List (List ℕ) → Bool
all_texts p [] = true
all_texts p (s ∷ ss) = p s && all_texts p ss

one_of_has : (p : List ℕ → Bool) (ss : List (List ℕ)) → all_texts p ss ≡ true → (w : List ℕ) → one_of ss w ≡ true → p w ≡ true
unfolding one_of
one_of_has p [] ok w e = absurd cc
one_of_has p (s ∷ ss) ok w e =
    let both = and_true (p s) (all_texts p ss) ok in
    elim (or_true (bytes_eq s w) (one_of ss w) e) [
      | inl here ↦ subst (λ (x : List ℕ). p x ≡ true) (same_text s w (sym here)) both.0
      | inr more ↦ one_of_has p ss both.1 w more
    ]

abbrev at_most_three : List ℕ → Bool
at_most_three [] = true
at_most_three (a ∷ []) = true
at_most_three (a ∷ b ∷ []) = true
at_most_three (a ∷ b ∷ c ∷ []) = true
at_most_three (a ∷ b ∷ c ∷ d ∷ w) = false

too_long : (a b c d : ℕ) (w : List ℕ) → is_some (sign_number (a ∷ b ∷ c ∷ d ∷ w)) ≡ false
too_long a b c d w = is_false (is_some (sign_number (a ∷ b ∷ c ∷ d ∷ w)))
    (λ h. let e : false ≡ true = one_of_has at_most_three signs refl (a ∷ b ∷ c ∷ d ∷ w) (is_one (a ∷ b ∷ c ∷ d ∷ w) h) in absurd cc)

-- the first byte of a sign begins a sign
opened : (ss : List (List ℕ)) (b : ℕ) (w : List ℕ) → one_of ss (b ∷ w) ≡ true → list_any (λ s. get_or s 0 0 == b) ss ≡ true
unfolding one_of
opened [] b w e = absurd cc
opened (s ∷ ss) b w e = elim (or_true (bytes_eq s (b ∷ w)) (one_of ss (b ∷ w)) e) [
  | inl here ↦ let same = same_text s (b ∷ w) (sym here) in rw (ap (λ (x : List ℕ). get_or x 0 0) same) (first b (list_any (λ s. get_or s 0 0 == b) ss))
  | inr more ↦ rw (opened ss b w more) (or_last (get_or s 0 0 == b))
]
  where
    or_last : (b : Bool) → (b || true) ≡ true
    or_last true = refl
    or_last false = refl

    first : (b : ℕ) (x : Bool) → ((b == b) || x) ≡ true
    first b x = let e : (b == b) ≡ true = grind (arith, nat_tests) in rw e refl

pub opens : (b : ℕ) (w : List ℕ) → is_some (sign_number (b ∷ w)) ≡ true → opens_sign b ≡ true
opens b w e = opened signs b w (is_one (b ∷ w) e)

-- and is a sign itself
abbrev begins_alone : List ℕ → Bool
begins_alone [] = false
begins_alone (a ∷ s) = is_some (sign_number (a ∷ []))

alone : (ss : List (List ℕ)) → all_texts begins_alone ss ≡ true → (b : ℕ) → list_any (λ s. get_or s 0 0 == b) ss ≡ true → is_some (sign_number (b ∷ [])) ≡ true
alone [] ok b e = absurd cc
alone ([] ∷ ss) ok b e = absurd cc
alone ((a ∷ s) ∷ ss) ok b e =
    let both = and_true (begins_alone (a ∷ s)) (all_texts begins_alone ss) ok in
    elim (or_true (a == b) (list_any (λ s. get_or s 0 0 == b) ss) e) [
      | inl here ↦ subst (λ (x : ℕ). is_some (sign_number (x ∷ [])) ≡ true) (eqb-true a b here) both.0
      | inr more ↦ alone ss both.1 b more
    ]

pub opens_none : (b : ℕ) → is_some (sign_number (b ∷ [])) ≡ false → opens_sign b ≡ false
opens_none b off = is_false (opens_sign b) (λ h. not_both (is_some (sign_number (b ∷ []))) (alone signs refl b h) off)

-- so many bytes at the front are a sign, unless they are none, and no longer front is one
pub record IsLongest (text : List ℕ) (n : ℕ) : Type 0 where
  pub formed : 0 < n → is_some (sign_number (take n text)) ≡ true
  pub within : n ≤ length text
  pub longest : (m : ℕ) → n < m → m ≤ length text → is_some (sign_number (take m text)) ≡ false

module _ (text : List ℕ) where
  is_sign : ℕ → Bool
  is_sign k = nat_le k (length text) && is_some (sign_number (take k text))

  long : (text : List ℕ) (m : ℕ) → 3 < m → m ≤ length text → is_some (sign_number (take m text)) ≡ false
  long text zero lt le = absurd (omega arith)
  long text (suc zero) lt le = absurd (omega arith)
  long text (suc (suc zero)) lt le = absurd (omega arith)
  long text (suc (suc (suc zero))) lt le = absurd (omega arith)
  long [] (suc (suc (suc (suc m)))) lt le = absurd (omega arith)
  long (a ∷ []) (suc (suc (suc (suc m)))) lt le = absurd (omega arith)
  long (a ∷ b ∷ []) (suc (suc (suc (suc m)))) lt le = absurd (omega arith)
  long (a ∷ b ∷ c ∷ []) (suc (suc (suc (suc m)))) lt le = absurd (omega arith)
  long (a ∷ b ∷ c ∷ d ∷ text) (suc (suc (suc (suc m)))) lt le = too_long a b c d (take m text)

  off : (k : ℕ) → (nat_le k (length text) && is_some (sign_number (take k text))) ≡ false → k ≤ length text → is_some (sign_number (take k text)) ≡ false
  off k e le = let there : nat_le k (length text) ≡ true = grind (arith, nat_tests) in rw there at e

  within : (k : ℕ) → nat_le k (length text) ≡ true → k ≤ length text
  within k e = grind (arith, nat_tests)

  longer : (n m : ℕ) → n < m → m ≤ length text → (n < 1 → 1 ≤ length text → is_some (sign_number (take 1 text)) ≡ false) → (n < 2 → 2 ≤ length text → is_some (sign_number (take 2 text)) ≡ false)
      → (n < 3 → 3 ≤ length text → is_some (sign_number (take 3 text)) ≡ false) → is_some (sign_number (take m text)) ≡ false
  longer n zero lt le e f g = absurd (omega arith)
  longer n (suc zero) lt le e f g = e lt le
  longer n (suc (suc zero)) lt le e f g = f lt le
  longer n (suc (suc (suc zero))) lt le e f g = g lt le
  longer n (suc (suc (suc (suc m)))) lt le e f g = long text (suc (suc (suc (suc m)))) (omega arith) le

  pub longest_is : IsLongest text (sign_length text)
  unfolding sign_length
  longest_is = elim (bool_cases (nat_le 3 (length text) && is_some (sign_number (take 3 text)))) [
    | inl g ↦ rw g (record {
      formed = λ _. (and_true (nat_le 3 (length text)) (is_some (sign_number (take 3 text))) g).1;
      within = within 3 (and_true (nat_le 3 (length text)) (is_some (sign_number (take 3 text))) g).0;
      longest = λ m lt le. longer 3 m lt le (λ a. absurd (omega arith)) (λ a. absurd (omega arith)) (λ a. absurd (omega arith));
    })
    | inr g ↦ elim (bool_cases (nat_le 2 (length text) && is_some (sign_number (take 2 text)))) [
      | inl f ↦ rw (g, f) (record {
        formed = λ _. (and_true (nat_le 2 (length text)) (is_some (sign_number (take 2 text))) f).1;
        within = within 2 (and_true (nat_le 2 (length text)) (is_some (sign_number (take 2 text))) f).0;
        longest = λ m lt le. longer 2 m lt le (λ a. absurd (omega arith)) (λ a. absurd (omega arith)) (λ _. off 3 g);
      })
      | inr f ↦ elim (bool_cases (nat_le 1 (length text) && is_some (sign_number (take 1 text)))) [
        | inl e ↦ rw (g, f, e) (record {
          formed = λ _. (and_true (nat_le 1 (length text)) (is_some (sign_number (take 1 text))) e).1;
          within = within 1 (and_true (nat_le 1 (length text)) (is_some (sign_number (take 1 text))) e).0;
          longest = λ m lt le. longer 1 m lt le (λ a. absurd (omega arith)) (λ _. off 2 f) (λ _. off 3 g);
        })
        | inr e ↦ rw (g, f, e) (record {
          formed = λ lt. absurd (omega arith);
          within = omega arith;
          longest = λ m lt le. longer 0 m lt le (λ _. off 1 e) (λ _. off 2 f) (λ _. off 3 g);
        })
      ]
    ]
  ]
