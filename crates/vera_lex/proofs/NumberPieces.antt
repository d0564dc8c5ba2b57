-- Literals are the longest pieces at their places.
use Rattle.std.proofs.Common.{◌≡◌, ℕ, zero, suc, ◌+◌, ◌<◌, ◌≤◌, Bool, true, false, List, [], ◌∷◌, length, take, drop, get_or, refl, sym, subst, ◌∙◌, arith, inl, inr}
use Rattle.std.specs.Prelude.{◌==◌, ◌||◌, ◌&&◌}
use Rattle.std.proofs.lemmas.Bool.{eqb-true}
use Rattle.vera_lex.specs.Bytes.{is_blank, is_digit, opens_word, in_word, in_decimal, is_base, run, all}
use Rattle.vera_lex.specs.Forms.{Form, blank, comment, word, decimal, based, string, sign, has, after_width, has_width, is_based, IsPiece}
use Rattle.vera_lex.proofs.Digits.{bool_cases, run_formed}
use Rattle.vera_lex.proofs.Runs.{and_true, or_true, run_within, run_longest, led_longest, led_run, has_not, sign_byte}
use Rattle.vera_lex.proofs.Classes.{digit_byte}

-- `'` and a base behind the digits
abbrev pub quote_at : List ℕ → Bool
quote_at ts = get_or ts (run in_decimal ts) 0 == 39 && is_base (get_or ts (run in_decimal ts + 1) 0)

-- how many bytes a based literal has
abbrev pub based_end : List ℕ → ℕ
based_end ts = run in_decimal ts + 2 + run in_word (drop (run in_decimal ts + 2) ts)

-- ---- behind a digit of the width

quote_next : (c : ℕ) (cs : List ℕ) → in_decimal c ≡ true → quote_at (c ∷ cs) ≡ quote_at cs
quote_next c cs e = let one : suc (run in_decimal cs) + 1 ≡ suc (run in_decimal cs + 1) = omega arith in rw e (rw one refl)

end_next : (c : ℕ) (cs : List ℕ) → in_decimal c ≡ true → based_end (c ∷ cs) ≡ suc (based_end cs)
end_next c cs e = rw e (go (run in_decimal cs))
  where
    go : (r : ℕ) → suc r + 2 + run in_word (drop (suc r + 2) (c ∷ cs)) ≡ suc (r + 2 + run in_word (drop (r + 2) cs))
    go r = let two : suc r + 2 ≡ suc (r + 2) = omega arith in rw two (omega arith)

-- ---- at the `'`

here_end : (c : ℕ) (cs : List ℕ) → in_decimal c ≡ false → based_end (c ∷ cs) ≡ suc (suc (run in_word (drop 1 cs)))
here_end c cs e = rw e (go (run in_word (drop 1 cs)))
  where
    go : (n : ℕ) → 0 + 2 + n ≡ suc (suc n)
    go n = omega arith

here_quote : (c : ℕ) (cs : List ℕ) → in_decimal c ≡ false → quote_at (c ∷ cs) ≡ true → (d : ℕ) × (ds : List ℕ) × (cs ≡ d ∷ ds) × ((c == 39) ≡ true) × (is_base d ≡ true)
here_quote c cs e q = go cs (let x : (c == 39 && is_base (get_or (c ∷ cs) 1 0)) ≡ true = rw e at q in x)
  where
    go : (cs : List ℕ) → (c == 39 && is_base (get_or (c ∷ cs) 1 0)) ≡ true → (d : ℕ) × (ds : List ℕ) × (cs ≡ d ∷ ds) × ((c == 39) ≡ true) × (is_base d ≡ true)
    go [] q = let both = and_true (c == 39) false q in absurd cc
    go (d ∷ ds) q = let both = and_true (c == 39) (is_base d) q in (d, ds, refl, both.0, both.1)

pub width_formed : (ts : List ℕ) → quote_at ts ≡ true → has_width (take (based_end ts) ts) ≡ true
width_formed [] q = absurd cc
width_formed (c ∷ cs) q = elim (bool_cases (in_decimal c)) [
  | inl e ↦ rw (end_next c cs e) (rw e (width_formed cs (sym (quote_next c cs e) ∙ q)))
  | inr e ↦
      let h = here_quote c cs e q in
      rw (here_end c cs e) (rw e (subst (λ (w : List ℕ). after_width (c ∷ take (suc (run in_word (drop 1 w))) w) ≡ true) (sym h.2) (rw (h.3, h.4, run_formed in_word h.1) refl)))
]

pub width_within : (ts : List ℕ) → quote_at ts ≡ true → based_end ts ≤ length ts
width_within [] q = absurd cc
width_within (c ∷ cs) q = elim (bool_cases (in_decimal c)) [
  | inl e ↦ rw (end_next c cs e) (let ih = width_within cs (sym (quote_next c cs e) ∙ q) in omega arith)
  | inr e ↦
      let h = here_quote c cs e q in
      rw (here_end c cs e) (subst (λ (w : List ℕ). suc (suc (run in_word (drop 1 w))) ≤ suc (length w)) (sym h.2) (let le = run_within in_word h.1 in omega arith))
]

pub width_longest : (ts : List ℕ) → quote_at ts ≡ true → (m : ℕ) → based_end ts < m → m ≤ length ts → has_width (take m ts) ≡ false
width_longest [] q m lt le = absurd cc
width_longest (c ∷ cs) q zero lt le = absurd (omega arith)
width_longest (c ∷ cs) q (suc m) lt le = elim (bool_cases (in_decimal c)) [
  | inl e ↦
      let next = end_next c cs e in
      rw e (width_longest cs (sym (quote_next c cs e) ∙ q) m (omega arith) (omega arith))
  | inr e ↦
      let h = here_quote c cs e q in
      let n = here_end c cs e in
      let over : suc (run in_word (drop 1 cs)) < m = omega arith in
      let within : m ≤ length cs = omega arith in
      rw e (go cs h.0 h.1 m h.2 over within)
]
  where
    go : (cs : List ℕ) (d : ℕ) (ds : List ℕ) (m : ℕ) → cs ≡ d ∷ ds → suc (run in_word (drop 1 cs)) < m → m ≤ length cs → after_width (c ∷ take m cs) ≡ false
    go [] d ds m same lt le = absurd cc
    go (x ∷ xs) d ds zero same lt le = absurd (omega arith)
    go (x ∷ xs) d ds (suc m) same lt le = rw (run_longest in_word xs m (omega arith) (omega arith)) (three (c == 39) (is_base x))
      where
        three : (p q : Bool) → (p && q && false) ≡ false
        three true true = refl
        three true false = refl
        three false true = refl
        three false false = refl

-- ---- no `'` and base there

pub no_width : (ts : List ℕ) → quote_at ts ≡ false → (m : ℕ) → has_width (take m ts) ≡ false
no_width ts q zero = refl
no_width [] q (suc m) = refl
no_width (c ∷ cs) q (suc m) = elim (bool_cases (in_decimal c)) [
  | inl e ↦ rw e (no_width cs (sym (quote_next c cs e) ∙ q) m)
  | inr e ↦ rw e (go cs m (let x : (c == 39 && is_base (get_or (c ∷ cs) 1 0)) ≡ false = rw e at q in x))
]
  where
    go : (cs : List ℕ) (m : ℕ) → (c == 39 && is_base (get_or (c ∷ cs) 1 0)) ≡ false → after_width (c ∷ take m cs) ≡ false
    go cs zero q = refl
    go [] (suc m) q = refl
    go (d ∷ ds) (suc m) q = three (c == 39) (is_base d) (all in_word (take m ds)) q
      where
        three : (p q r : Bool) → (p && q) ≡ false → (p && q && r) ≡ false
        three true true r e = absurd cc
        three true false r e = refl
        three false q r e = refl

-- ---- the first byte is a digit or `'`

quote_decimal : (b : ℕ) → (b == 39) ≡ true → in_decimal b ≡ false
quote_decimal b e = subst (λ (x : ℕ). in_decimal x ≡ false) (sym (eqb-true b 39 e)) refl

quote_digit : (b : ℕ) → (b == 39) ≡ true → is_digit b ≡ false
quote_digit b e = subst (λ (x : ℕ). is_digit x ≡ false) (sym (eqb-true b 39 e)) refl

pub based_is : (b : ℕ) (w : List ℕ) → (is_digit b || b == 39) ≡ true → is_based (b ∷ w) ≡ has_width (b ∷ w)
based_is b w first = elim (or_true (is_digit b) (b == 39) first) [
  | inl d ↦ let e : in_decimal b ≡ true = rw d refl in rw (e, d) refl
  | inr q ↦ rw (quote_decimal b q, quote_digit b q) refl
]

module _ (b : ℕ) (bs : List ℕ) (first : (is_digit b || b == 39) ≡ true) where
  pub blank_off : is_blank b ≡ false
  blank_off = elim (or_true (is_digit b) (b == 39) first) [
    | inl d ↦ (digit_byte b d).is_blank
    | inr q ↦ subst (λ (x : ℕ). is_blank x ≡ false) (sym (eqb-true b 39 q)) refl
  ]

  pub word_off : opens_word b ≡ false
  word_off = elim (or_true (is_digit b) (b == 39) first) [
    | inl d ↦ (digit_byte b d).is_word
    | inr q ↦ subst (λ (x : ℕ). opens_word x ≡ false) (sym (eqb-true b 39 q)) refl
  ]

  pub slash_off : (b == 47) ≡ false
  slash_off = elim (or_true (is_digit b) (b == 39) first) [
    | inl d ↦ (digit_byte b d).is_slash
    | inr q ↦ subst (λ (x : ℕ). (x == 47) ≡ false) (sym (eqb-true b 39 q)) refl
  ]

  pub double_off : (b == 34) ≡ false
  double_off = elim (or_true (is_digit b) (b == 39) first) [
    | inl d ↦ (digit_byte b d).is_double
    | inr q ↦ subst (λ (x : ℕ). (x == 34) ≡ false) (sym (eqb-true b 39 q)) refl
  ]

  pub hash_off : (b == 35) ≡ false
  hash_off = elim (or_true (is_digit b) (b == 39) first) [
    | inl d ↦ (digit_byte b d).is_hash
    | inr q ↦ subst (λ (x : ℕ). (x == 35) ≡ false) (sym (eqb-true b 39 q)) refl
  ]

  sign_off : (w : List ℕ) → has sign (b ∷ w) ≡ false
  sign_off w = elim (or_true (is_digit b) (b == 39) first) [
    | inl d ↦ has_not sign b w (let x = digit_byte b d in rw (x.is_blank, x.is_word, d) refl)
    | inr q ↦ has_not sign b w (subst (λ (x : ℕ). sign_byte x ≡ false) (sym (eqb-true b 39 q)) refl)
  ]

  decimal_shorter : (m : ℕ) → run in_decimal (b ∷ bs) < m → m ≤ suc (length bs) → has decimal (take m (b ∷ bs)) ≡ false
  decimal_shorter zero lt le = absurd (omega arith)
  decimal_shorter (suc m) lt le = elim (or_true (is_digit b) (b == 39) first) [
    | inr q ↦ has_not decimal b (take m bs) (quote_digit b q)
    | inl d ↦
        let n : run in_decimal (b ∷ bs) ≡ suc (run in_decimal bs) = led_run is_digit in_decimal b bs (rw d refl) in
        led_longest is_digit in_decimal b bs (suc m) (omega arith) le
  ]

  pub based_piece : quote_at (b ∷ bs) ≡ true → IsPiece (b ∷ bs) based (based_end (b ∷ bs))
  based_piece q = record {
    formed = formed (based_end (b ∷ bs)) (width_formed (b ∷ bs) q);
    within = width_within (b ∷ bs) q;
    longest = longer;
  }
    where
      formed : (n : ℕ) → has_width (take n (b ∷ bs)) ≡ true → is_based (take n (b ∷ bs)) ≡ true
      formed zero e = absurd cc
      formed (suc n) e = based_is b (take n bs) first ∙ e

      longer : (other : Form) (m : ℕ) → based_end (b ∷ bs) < m → m ≤ suc (length bs) → has other (take m (b ∷ bs)) ≡ false
      longer other zero lt le = absurd (omega arith)
      longer blank (suc m) lt le = has_not blank b (take m bs) blank_off
      longer comment (suc m) lt le = has_not comment b (take m bs) slash_off
      longer word (suc m) lt le = has_not word b (take m bs) word_off
      longer decimal (suc m) lt le = decimal_shorter (suc m) (omega arith) le
      longer based (suc m) lt le = based_is b (take m bs) first ∙ width_longest (b ∷ bs) q (suc m) lt le
      longer string (suc m) lt le = has_not string b (take m bs) double_off
      longer sign (suc m) lt le = sign_off (take m bs)

  pub decimal_piece : is_digit b ≡ true → quote_at (b ∷ bs) ≡ false → IsPiece (b ∷ bs) decimal (run in_decimal (b ∷ bs))
  decimal_piece d q = record {
    formed = formed;
    within = run_within in_decimal (b ∷ bs);
    longest = longer;
  }
    where
      formed : has decimal (take (run in_decimal (b ∷ bs)) (b ∷ bs)) ≡ true
      formed = let n : run in_decimal (b ∷ bs) ≡ suc (run in_decimal bs) = led_run is_digit in_decimal b bs (rw d refl) in rw n (rw (d, run_formed in_decimal bs) refl)

      longer : (other : Form) (m : ℕ) → run in_decimal (b ∷ bs) < m → m ≤ suc (length bs) → has other (take m (b ∷ bs)) ≡ false
      longer other zero lt le = absurd (omega arith)
      longer blank (suc m) lt le = has_not blank b (take m bs) blank_off
      longer comment (suc m) lt le = has_not comment b (take m bs) slash_off
      longer word (suc m) lt le = has_not word b (take m bs) word_off
      longer decimal (suc m) lt le = decimal_shorter (suc m) lt le
      longer based (suc m) lt le = based_is b (take m bs) first ∙ no_width (b ∷ bs) q (suc m)
      longer string (suc m) lt le = has_not string b (take m bs) double_off
      longer sign (suc m) lt le = sign_off (take m bs)
