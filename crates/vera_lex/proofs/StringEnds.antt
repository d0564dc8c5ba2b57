-- Where a string ends.
use Rattle.std.proofs.Common.{◌≡◌, ℕ, zero, suc, ◌+◌, ◌<◌, ◌≤◌, Bool, true, false, List, [], ◌∷◌, length, take, refl, sym, subst, arith, inl, inr, ◌⊎◌, Result, Ok, Err}
use Rattle.std.specs.Prelude.{◌==◌}
use Rattle.vera_lex.specs.Bytes.{ends_line, is_escaped}
use Rattle.vera_lex.specs.Forms.{ends_string}
use Rattle.vera_lex.specs.Refusals.{bad_escape, is_closed}
use Rattle.vera_lex.specs.Reading.{more, string_end}
use Rattle.vera_lex.proofs.Digits.{bool_cases}
use Rattle.vera_lex.proofs.Runs.{and_off}

-- the string ends behind so many bytes
pub record IsEnd (escape : Bool) (bs : List ℕ) (n : ℕ) : Type 0 where
  pub good : bad_escape escape bs ≡ false
  pub closed : is_closed escape bs ≡ true
  pub formed : ends_string escape (take n bs) ≡ true
  pub some : 0 < n
  pub within : n ≤ length bs
  pub longest : (m : ℕ) → n < m → m ≤ length bs → ends_string escape (take m bs) ≡ false

-- the refusal where it doesn't
abbrev pub IsFault : Bool → List ℕ → ℕ → Type 0
IsFault escape bs code = ((code ≡ 1) × (bad_escape escape bs ≡ true)) ⊎ ((code ≡ 2) × (bad_escape escape bs ≡ false) × (is_closed escape bs ≡ false))

abbrev pub Ends : Bool → List ℕ → Result ℕ ℕ → Type 0
Ends escape bs (Ok n) = IsEnd escape bs n
Ends escape bs (Err code) = IsFault escape bs code

module _ (b : ℕ) (bs : List ℕ) where
  after_escape : (r : Result ℕ ℕ) → is_escaped b ≡ true → Ends false bs r → Ends true (b ∷ bs) (more 1 r)
  after_escape (Ok n) e h = let one : 1 + n ≡ suc n = omega arith in subst (λ (k : ℕ). IsEnd true (b ∷ bs) k) (sym one) (record {
    good = rw e h.good;
    closed = h.closed;
    formed = rw e h.formed;
    some = omega arith;
    within = let le = h.within in omega arith;
    longest = longer;
  })
    where
      longer : (m : ℕ) → suc n < m → m ≤ suc (length bs) → ends_string true (take m (b ∷ bs)) ≡ false
      longer zero lt le = absurd (omega arith)
      longer (suc m) lt le = rw (h.longest m (omega arith) (omega arith)) (and_off (is_escaped b))
  after_escape (Err code) e (inl h) = inl (h.0, rw e h.1)
  after_escape (Err code) e (inr h) = inr (h.0, rw e h.1, h.2)

  after_byte : (r : Result ℕ ℕ) → (b == 34) ≡ false → ends_line b ≡ false → Ends (b == 92) bs r → Ends false (b ∷ bs) (more 1 r)
  after_byte (Ok n) e f h = let one : 1 + n ≡ suc n = omega arith in subst (λ (k : ℕ). IsEnd false (b ∷ bs) k) (sym one) (record {
    good = rw (e, f) h.good;
    closed = rw (e, f) h.closed;
    formed = rw (e, f) h.formed;
    some = omega arith;
    within = let le = h.within in omega arith;
    longest = longer;
  })
    where
      longer : (m : ℕ) → suc n < m → m ≤ suc (length bs) → ends_string false (take m (b ∷ bs)) ≡ false
      longer zero lt le = absurd (omega arith)
      longer (suc m) lt le = rw (e, f) (h.longest m (omega arith) (omega arith))
  after_byte (Err code) e f (inl h) = inl (h.0, rw (e, f) h.1)
  after_byte (Err code) e f (inr h) = inr (h.0, rw (e, f) h.1, rw (e, f) h.2)

  quote : (b == 34) ≡ true → IsEnd false (b ∷ bs) 1
  quote e = record {
    good = rw e refl;
    closed = rw e refl;
    formed = rw e refl;
    some = omega arith;
    within = omega arith;
    longest = longer bs;
  }
    where
      longer : (bs : List ℕ) (m : ℕ) → 1 < m → m ≤ suc (length bs) → ends_string false (take m (b ∷ bs)) ≡ false
      longer bs zero lt le = absurd (omega arith)
      longer bs (suc zero) lt le = absurd (omega arith)
      longer [] (suc (suc m)) lt le = absurd (omega arith)
      longer (x ∷ bs) (suc (suc m)) lt le = rw e refl

pub ends : (escape : Bool) (bs : List ℕ) → Ends escape bs (string_end escape bs)
ends true [] = inl (refl, refl)
ends false [] = inr (refl, refl, refl)
ends true (b ∷ bs) = elim (bool_cases (is_escaped b)) [
  | inl e ↦ rw e (after_escape b bs (string_end false bs) e (ends false bs))
  | inr e ↦ rw e (inl (refl, rw e refl))
]
ends false (b ∷ bs) = elim (bool_cases (b == 34)) [
  | inl e ↦ rw e (quote b bs e)
  | inr e ↦ elim (bool_cases (ends_line b)) [
    | inl f ↦ rw (e, f) (inr (refl, rw (e, f) refl, rw (e, f) refl))
    | inr f ↦ rw (e, f) (after_byte b bs (string_end (b == 92) bs) e f (ends (b == 92) bs))
  ]
]
