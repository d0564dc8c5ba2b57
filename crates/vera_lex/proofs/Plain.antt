-- Blanks, words and strings are the longest pieces at their places.
use Rattle.std.proofs.Common.{◌≡◌, ℕ, zero, suc, ◌<◌, ◌≤◌, Bool, true, false, List, [], ◌∷◌, length, take, refl, ap, ◌∙◌, arith, inl, inr, Result, Ok, Err}
use Rattle.std.specs.Prelude.{◌==◌, ◌||◌, not}
use Rattle.vera_lex.specs.Bytes.{is_blank, is_digit, opens_word, in_word, run}
use Rattle.vera_lex.specs.Forms.{Form, blank, comment, word, decimal, based, string, sign, has, IsPiece}
use Rattle.vera_lex.specs.Literals.{opens_based}
use Rattle.vera_lex.specs.Refusals.{fault, bad_escape, is_closed}
use Rattle.vera_lex.specs.Tokens.{gap, Stands}
use Rattle.vera_lex.specs.Reading.{word_front, string_front, string_end, quoted}
use Rattle.vera_lex.proofs.Digits.{run_formed}
use Rattle.vera_lex.proofs.Runs.{run_within, led_longest, led_run, has_not, and_off}
use Rattle.vera_lex.proofs.Classes.{Fails, blank_byte, word_byte}
use Rattle.vera_lex.proofs.Faults.{fault_of, fault_at, none_of, off_and, or_off, begins_at, stands_piece, stands_fault}
use Rattle.vera_lex.proofs.StringEnds as strings

module _ (b : ℕ) (bs : List ℕ) where
  pub no_based : is_digit b ≡ false → (b == 39) ≡ false → opens_based (b ∷ bs) ≡ false
  no_based d q = rw (d, q) refl

  blank_piece : is_blank b ≡ true → IsPiece (b ∷ bs) blank 1
  blank_piece e = record {
    formed = rw e refl;
    within = omega arith;
    longest = longer bs (blank_byte b e);
  }
    where
      longer : (bs : List ℕ) → Fails true false false false false false false b → (other : Form) (m : ℕ) → 1 < m → m ≤ suc (length bs) → has other (take m (b ∷ bs)) ≡ false
      longer bs c other zero lt le = absurd (omega arith)
      longer bs c other (suc zero) lt le = absurd (omega arith)
      longer [] c other (suc (suc m)) lt le = absurd (omega arith)
      longer (x ∷ bs) c blank (suc (suc m)) lt le = and_off (is_blank b)
      longer (x ∷ bs) c comment (suc (suc m)) lt le = has_not comment b (x ∷ take m bs) c.is_slash
      longer (x ∷ bs) c word (suc (suc m)) lt le = has_not word b (x ∷ take m bs) c.is_word
      longer (x ∷ bs) c decimal (suc (suc m)) lt le = has_not decimal b (x ∷ take m bs) c.is_digit
      longer (x ∷ bs) c based (suc (suc m)) lt le = has_not based b (x ∷ take m bs) (rw (c.is_digit, c.is_single) refl)
      longer (x ∷ bs) c string (suc (suc m)) lt le = has_not string b (x ∷ take m bs) c.is_double
      longer (x ∷ bs) c sign (suc (suc m)) lt le = has_not sign b (x ∷ take m bs) (rw c.is_blank refl)

  pub blank_stands : is_blank b ≡ true → Stands (b ∷ bs) (Ok (gap, 1))
  blank_stands e =
      let c = blank_byte b e in
      let based = no_based c.is_digit c.is_single in
      let faults = fault_at (b ∷ bs) false false false false false false
      (begins_at b bs true false false false _ false c.is_blank c.is_word c.is_digit c.is_double refl based)
      (rw c.is_double refl) (off_and (opens_based (b ∷ bs)) _ based) (rw c.is_double refl) (rw c.is_slash refl) (off_and (is_digit b || opens_based (b ∷ bs)) _ (or_off (is_digit b) (opens_based (b ∷ bs)) c.is_digit based)) ∙ none_of in
      stands_piece (b ∷ bs) (Ok (gap, 1)) blank 1 faults (rw c.is_hash refl) (blank_piece e) refl

  word_piece : opens_word b ≡ true → IsPiece (b ∷ bs) word (suc (run in_word bs))
  word_piece e = record {
    formed = rw (e, run_formed in_word bs) refl;
    within = let le = run_within in_word bs in omega arith;
    longest = longer (word_byte b e);
  }
    where
      longer : Fails false true false false false false false b → (other : Form) (m : ℕ) → suc (run in_word bs) < m → m ≤ suc (length bs) → has other (take m (b ∷ bs)) ≡ false
      longer c other zero lt le = absurd (omega arith)
      longer c blank (suc m) lt le = has_not blank b (take m bs) c.is_blank
      longer c comment (suc m) lt le = has_not comment b (take m bs) c.is_slash
      longer c word (suc m) lt le = led_longest opens_word in_word b bs (suc m) lt le
      longer c decimal (suc m) lt le = has_not decimal b (take m bs) c.is_digit
      longer c based (suc m) lt le = has_not based b (take m bs) (rw (c.is_digit, c.is_single) refl)
      longer c string (suc m) lt le = has_not string b (take m bs) c.is_double
      longer c sign (suc m) lt le = has_not sign b (take m bs) (rw (c.is_blank, c.is_word) refl)

  pub word_stands : opens_word b ≡ true → Stands (b ∷ bs) (word_front (b ∷ bs))
  unfolding word_front
  word_stands e =
      let c = word_byte b e in
      let based = no_based c.is_digit c.is_single in
      let n : run in_word (b ∷ bs) ≡ suc (run in_word bs) = led_run opens_word in_word b bs (rw e refl) in
      let faults = fault_at (b ∷ bs) false false false false false false
      (begins_at b bs false true false false _ false c.is_blank c.is_word c.is_digit c.is_double refl based)
      (rw c.is_double refl) (off_and (opens_based (b ∷ bs)) _ based) (rw c.is_double refl) (rw c.is_slash refl) (off_and (is_digit b || opens_based (b ∷ bs)) _ (or_off (is_digit b) (opens_based (b ∷ bs)) c.is_digit based)) ∙ none_of in
      stands_piece (b ∷ bs) (word_front (b ∷ bs)) word (run in_word (b ∷ bs)) faults (rw c.is_hash refl) (rw n (word_piece e)) refl

-- ---- strings

module _ (bs : List ℕ) where
  string_piece : (n : ℕ) → strings.IsEnd false bs n → IsPiece (34 ∷ bs) string (suc n)
  string_piece n i = record {
    formed = i.formed;
    within = let le = i.within in omega arith;
    longest = longer;
  }
    where
      longer : (other : Form) (m : ℕ) → suc n < m → m ≤ suc (length bs) → has other (take m (34 ∷ bs)) ≡ false
      longer other zero lt le = absurd (omega arith)
      longer blank (suc m) lt le = has_not blank 34 (take m bs) refl
      longer comment (suc m) lt le = has_not comment 34 (take m bs) refl
      longer word (suc m) lt le = has_not word 34 (take m bs) refl
      longer decimal (suc m) lt le = has_not decimal 34 (take m bs) refl
      longer based (suc m) lt le = has_not based 34 (take m bs) refl
      longer string (suc m) lt le = i.longest m (omega arith) (omega arith)
      longer sign (suc m) lt le = has_not sign 34 (take m bs) refl

  string_faults : (x y : Bool) → bad_escape false bs ≡ x → is_closed false bs ≡ y → fault (34 ∷ bs) ≡ fault_of false x false (not y) false false
  string_faults x y e f = fault_at (34 ∷ bs) false x false (not y) false false refl (rw e refl) refl (rw f refl) refl refl

  found : (r : Result ℕ ℕ) → strings.Ends false bs r → Stands (34 ∷ bs) (quoted bs r)
  unfolding fault_of
  found (Ok n) i = stands_piece (34 ∷ bs) _ string (suc n) (string_faults false true i.good i.closed) refl (string_piece n i) refl
  found (Err code) (inl h) = stands_fault (34 ∷ bs) _ 1 (string_faults true (is_closed false bs) h.1 refl) (ap (λ (c : ℕ). Err c) h.0)
  found (Err code) (inr h) = stands_fault (34 ∷ bs) _ 2 (string_faults false false h.1 h.2) (ap (λ (c : ℕ). Err c) h.0)

  pub string_stands : Stands (34 ∷ bs) (string_front (34 ∷ bs))
  unfolding string_front
  string_stands = found (string_end false bs) (strings.ends false bs)
