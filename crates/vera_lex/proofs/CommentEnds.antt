-- Where a comment ends.
use Rattle.std.proofs.Common.{◌≡◌, ℕ, zero, suc, ◌<◌, ◌≤◌, true, false, List, [], ◌∷◌, length, take, refl, arith, inl, inr, Option, Some, None}
use Rattle.std.specs.Prelude.{◌==◌, ◌&&◌, option_map}
use Rattle.vera_lex.specs.Forms.{closes}
use Rattle.vera_lex.specs.Refusals.{has_end}
use Rattle.vera_lex.specs.Reading.{comment_end}
use Rattle.vera_lex.proofs.Digits.{bool_cases}

-- the comment ends behind so many bytes, after the byte before them
pub record IsEnd (before : ℕ) (bs : List ℕ) (n : ℕ) : Type 0 where
  pub has : has_end (before ∷ bs) ≡ true
  pub formed : closes (before ∷ take n bs) ≡ true
  pub within : n ≤ length bs
  pub longest : (m : ℕ) → n < m → m ≤ length bs → closes (before ∷ take m bs) ≡ false

abbrev pub Ends : ℕ → List ℕ → Option ℕ → Type 0
Ends before bs (Some n) = IsEnd before bs n
Ends before bs None = has_end (before ∷ bs) ≡ false

module _ (before b : ℕ) (bs : List ℕ) where
  here : (before == 42 && b == 47) ≡ true → IsEnd before (b ∷ bs) 1
  here e = record {
    has = rw e refl;
    formed = rw e refl;
    within = omega arith;
    longest = longer bs;
  }
    where
      longer : (bs : List ℕ) (m : ℕ) → 1 < m → m ≤ suc (length bs) → closes (before ∷ take m (b ∷ bs)) ≡ false
      longer bs zero lt le = absurd (omega arith)
      longer bs (suc zero) lt le = absurd (omega arith)
      longer [] (suc (suc m)) lt le = absurd (omega arith)
      longer (x ∷ bs) (suc (suc m)) lt le = rw e refl

  later : (o : Option ℕ) → (before == 42 && b == 47) ≡ false → Ends b bs o → Ends before (b ∷ bs) (option_map suc o)
  later None e h = rw e h
  later (Some n) e h = record {
    has = rw e h.has;
    formed = rw e h.formed;
    within = let le = h.within in omega arith;
    longest = longer;
  }
    where
      longer : (m : ℕ) → suc n < m → m ≤ suc (length bs) → closes (before ∷ take m (b ∷ bs)) ≡ false
      longer zero lt le = absurd (omega arith)
      longer (suc m) lt le = rw e (h.longest m (omega arith) (omega arith))

pub ends : (before : ℕ) (bs : List ℕ) → Ends before bs (comment_end before bs)
ends before [] = refl
ends before (b ∷ bs) = elim (bool_cases (before == 42 && b == 47)) [
  | inl e ↦ rw e (here before b bs e)
  | inr e ↦ rw e (later before b bs (comment_end b bs) e (ends b bs))
]

pub closes_zero : (w : List ℕ) → closes (0 ∷ w) ≡ closes w
closes_zero [] = refl
closes_zero (b ∷ w) = refl

pub has_end_zero : (w : List ℕ) → has_end (0 ∷ w) ≡ has_end w
has_end_zero [] = refl
has_end_zero (b ∷ w) = refl
