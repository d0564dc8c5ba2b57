-- Blanks and comments of one line, one after the other.
use Rattle.std.proofs.Common.{◌≡◌, ℕ, zero, suc, ◌+◌, ◌<◌, ◌≤◌, true, false, List, [], ◌∷◌, length, drop, refl, sym, ap, ◌∙◌, arith, get_or, ◌⊎◌, inl, inr}
use Rattle.std.specs.Prelude.{◌&&◌, ◌==◌}
use Rattle.std.proofs.lemmas.Bool.{ne_eqb}
use Rattle.std.proofs.Math.Seq.{drop-cons}
use Rattle.vera_lex.specs.Bytes.{is_space}
use Rattle.vera_lex.proofs.Digits.{not_both}
use Rattle.vera_lex.specs.Directives.{gap}

drop_two : (bs : List ℕ) (at : ℕ) → drop 1 (drop (suc at) bs) ≡ drop (suc (suc at)) bs
drop_two [] zero = refl
drop_two (b ∷ bs) zero = refl
drop_two [] (suc at) = refl
drop_two (b ∷ bs) (suc at) = drop_two bs at

second_at : (bs : List ℕ) (at : ℕ) → get_or bs (suc at) 0 ≡ get_or (drop (suc at) bs) 0 0
second_at [] at = refl
second_at (b ∷ []) zero = refl
second_at (b ∷ c ∷ bs) zero = refl
second_at (b ∷ bs) (suc at) = second_at bs at

here : (bs : List ℕ) (at a : ℕ) → at < length bs → get_or bs at 0 ≡ a → drop at bs ≡ a ∷ drop (suc at) bs
here bs at a lt e = rw (← e) (drop-cons bs at 0 lt)

ends : (a : ℕ) (t : List ℕ) → (a == 42) ≡ true → (get_or t 0 0 == 47) ≡ true → gap true (a ∷ t) ≡ suc (suc (gap false (drop 1 t)))
ends a [] e f = absurd cc
ends a (b ∷ t) e f = rw (e, f) refl

goes_on : (a : ℕ) (t : List ℕ) → ((a == 42) && (get_or t 0 0 == 47)) ≡ false → (a == 10) ≡ false → gap true (a ∷ t) ≡ suc (gap true t)
goes_on a [] e f = rw f refl
goes_on a (b ∷ t) e f = rw (e, f) refl

spaces : (a : ℕ) (t : List ℕ) → is_space a ≡ true → gap false (a ∷ t) ≡ suc (gap false t)
spaces a [] e = rw e refl
spaces a (b ∷ t) e = rw e refl

begins : (a : ℕ) (t : List ℕ) → is_space a ≡ false → (a == 47) ≡ true → (get_or t 0 0 == 42) ≡ true → gap false (a ∷ t) ≡ suc (suc (gap true (drop 1 t)))
begins a [] s e f = absurd cc
begins a (b ∷ t) s e f = rw (s, e, f) refl

pub not_pair : (a b : ℕ) → ((a ≡ 42) × (b ≡ 47 → ⊥)) ⊎ (a ≡ 42 → ⊥) → ((a == 42) && (b == 47)) ≡ false
not_pair a b (inl h) = rw (h.0, ne_eqb b 47 h.1) refl
not_pair a b (inr h) = rw (ne_eqb a 42 h) refl

module _ (bs : List ℕ) (at a b r one two : ℕ) (is_one : one ≡ suc at) (is_two : two ≡ suc (suc at)) (lt : at < length bs) (e : get_or bs at 0 ≡ a) (f : b ≡ get_or bs one 0) where
  next_byte : get_or (drop (suc at) bs) 0 0 ≡ b
  next_byte = sym (second_at bs at) ∙ ap (λ (n : ℕ). get_or bs n 0) (sym is_one) ∙ sym f

  pub comment_ends : (a == 42) ≡ true → (b == 47) ≡ true → at + gap true (drop at bs) ≡ r → two + gap false (drop two bs) ≡ r
  comment_ends x y read =
      let now : at + gap true (a ∷ drop (suc at) bs) ≡ r = rw (here bs at a lt e) at read in
      let step = ends a (drop (suc at) bs) x (rw next_byte y) in
      let both = drop_two bs at in
      let same : gap false (drop 1 (drop (suc at) bs)) ≡ gap false (drop (suc (suc at)) bs) = ap (λ (w : List ℕ). gap false w) both in
      rw is_two (omega arith)

  pub comment_goes_on : ((a == 42) && (b == 47)) ≡ false → (a == 10) ≡ false → at + gap true (drop at bs) ≡ r → one + gap true (drop one bs) ≡ r
  comment_goes_on x y read =
      let now : at + gap true (a ∷ drop (suc at) bs) ≡ r = rw (here bs at a lt e) at read in
      let step = goes_on a (drop (suc at) bs) (rw next_byte x) y in
      rw is_one (omega arith)

  pub space_passes : is_space a ≡ true → at + gap false (drop at bs) ≡ r → one + gap false (drop one bs) ≡ r
  space_passes x read =
      let now : at + gap false (a ∷ drop (suc at) bs) ≡ r = rw (here bs at a lt e) at read in
      let step = spaces a (drop (suc at) bs) x in
      rw is_one (omega arith)

  pub comment_begins : is_space a ≡ false → (a == 47) ≡ true → (b == 42) ≡ true → at + gap false (drop at bs) ≡ r → two + gap true (drop two bs) ≡ r
  comment_begins s x y read =
      let now : at + gap false (a ∷ drop (suc at) bs) ≡ r = rw (here bs at a lt e) at read in
      let step = begins a (drop (suc at) bs) s x (rw next_byte y) in
      let both = drop_two bs at in
      let same : gap true (drop 1 (drop (suc at) bs)) ≡ gap true (drop (suc (suc at)) bs) = ap (λ (w : List ℕ). gap true w) both in
      rw is_two (omega arith)

  -- where the second byte isn't 0 there are two
  pub two_there : (b == 0) ≡ false → two ≤ length bs
  two_there x = rw is_two (go bs at (ap (λ (n : ℕ). get_or bs n 0) (sym is_one) ∙ sym f))
    where
      zero_is : 0 ≡ b → ⊥
      zero_is h = not_both (b == 0) (rw (← h) refl) x

      go : (bs : List ℕ) (at : ℕ) → get_or bs (suc at) 0 ≡ b → suc (suc at) ≤ length bs
      go [] at f = absurd (zero_is f)
      go (c ∷ []) zero f = absurd (zero_is f)
      go (c ∷ d ∷ bs) zero f = omega arith
      go (c ∷ bs) (suc at) f = let h = go bs at f in omega arith
