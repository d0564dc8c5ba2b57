-- Digits one after the other, `_` left out.
use Rattle.std.proofs.Common.{◌≡◌, ℕ, zero, suc, ◌+◌, ◌*◌, ◌<◌, ◌≤◌, Bool, true, false, List, [], ◌∷◌, length, drop, refl, sym, ◌∙◌, arith, add-one, get_or, ◌⊎◌, inl, inr, take, Any, ◌≢◌, ◌-◌, Option, Some, None}
use Rattle.std.specs.Prelude.{◌&&◌, ◌||◌, ◌==◌, nat_lt, nat_le, if◌then◌else◌}
use Rattle.std.specs.Char.{digit_value}
use Rattle.std.specs.Str.Parse.{digits_value_after}
use Rattle.std.proofs.lemmas.Bool.{ne_eqb, and_parts, ltb-true, ltb-false, lt-ltb, le-ltb}
use Rattle.std.proofs.lemmas.Bool.Decides.{nat_tests}
use Rattle.std.proofs.Math.Seq.{drop-cons}
use Rattle.four_state.specs.Literals.{plain_digits, is_only, literal_of}
use Rattle.vera_lex.specs.Bytes.{all, run, in_decimal, is_digit}
use Rattle.vera_lex.specs.Literals.{bits_of_digit, bits_of_digits, are_digits, are_right, is_x_or_z}

pub bool_cases : (b : Bool) → (b ≡ true) ⊎ (b ≡ false)
bool_cases true = inl refl
bool_cases false = inr refl

pub not_both : (b : Bool) → b ≡ true → b ≡ false → ⊥
not_both true e f = cc
not_both false e f = cc

pub or_right : (b : Bool) → (b || true) ≡ true
or_right true = refl
or_right false = refl

pub or_false : (a b : Bool) → (a || b) ≡ true → b ≡ false → a ≡ true
or_false true b e f = refl
or_false false b e f = absurd cc

-- a `_` is passed over
pub plain_skip : (digits : List ℕ) (place digit : ℕ) → place < length digits → get_or digits place 0 ≡ digit → digit ≡ 95 → plain_digits (drop place digits) ≡ plain_digits (drop (place + 1) digits)
plain_skip digits place digit h e skip = rw (add-one, drop-cons digits place 0 h, e, skip) refl

pub plain_take : (digits : List ℕ) (place digit : ℕ) → place < length digits → get_or digits place 0 ≡ digit → (digit ≡ 95 → ⊥) → plain_digits (drop place digits) ≡ digit ∷ plain_digits (drop (place + 1) digits)
plain_take digits place digit h e keep = rw (add-one, drop-cons digits place 0 h, e, ne_eqb digit 95 keep) refl

-- the bits of digits behind those of so many bits
abbrev pub bits_from : ℕ → ℕ → List ℕ → ℕ
bits_from zero places ds = bits_of_digits places ds
bits_from (suc n) places ds = suc n + places * length ds

-- ---- bits

one_more : (places c bits : ℕ) (rest : List ℕ) → bits_from (bits + (if bits == 0 then bits_of_digit places c else places)) places rest ≡ bits_from bits places (c ∷ rest)
one_more places c zero rest =
    let none : 0 + bits_of_digit places c ≡ bits_of_digit places c = omega arith in
    rw none (first (bits_of_digit places c) refl)
  where
    first : (n : ℕ) → bits_of_digit places c ≡ n → bits_from n places rest ≡ bits_of_digits places (c ∷ rest)
    first zero e = rw e refl
    first (suc n) e = let off : (suc n == 0) ≡ false = grind (arith, nat_tests) in rw (e, off) refl
one_more places c (suc bits) rest =
    let off : (suc bits == 0) ≡ false = grind (arith, nat_tests) in
    let sum : suc bits + places ≡ suc (bits + places) = omega arith in
    rw (off, sum) (omega arith)

pub bits_more : (ds : List ℕ) (place digit bits added places r : ℕ) → place < length ds → get_or ds place 0 ≡ digit → (digit ≡ 95 → ⊥) → added ≡ (if bits == 0 then bits_of_digit places digit else places)
    → bits_from bits places (plain_digits (drop place ds)) ≡ r → bits_from (bits + added) places (plain_digits (drop (place + 1) ds)) ≡ r
bits_more ds place digit bits added places r h e keep a read =
    let taken = plain_take ds place digit h e keep in
    let before : bits_from bits places (digit ∷ plain_digits (drop (place + 1) ds)) ≡ r = rw taken at read in
    rw a (one_more places digit bits (plain_digits (drop (place + 1) ds)) ∙ before)

-- ---- decimal numbers

pub value_grows : (n : ℕ) (ds : List ℕ) → n ≤ digits_value_after 10 n ds
value_grows n [] = omega arith
value_grows n (c ∷ ds) = let h = value_grows (n * 10 + digit_value c) ds in omega arith

digit_value_is : (c : ℕ) → is_digit c ≡ true → digit_value c ≡ c - 48
digit_value_is c e = grind (arith, nat_tests)

pub value_past : (ds : List ℕ) (place digit value added w : ℕ) → place < length ds → get_or ds place 0 ≡ digit → (digit ≡ 95 → ⊥) → all in_decimal (drop place ds) ≡ true → added ≡ digit - 48
    → digits_value_after 10 value (plain_digits (drop place ds)) ≡ w → value * 10 + added ≤ w
value_past ds place digit value added w h e keep decimal a read =
    let taken = plain_take ds place digit h e keep in
    let whole : digits_value_after 10 (value * 10 + digit_value digit) (plain_digits (drop (place + 1) ds)) ≡ w = rw taken at read in
    let here : drop place ds ≡ digit ∷ drop (suc place) ds = rw (← e) (drop-cons ds place 0 h) in
    let both : (in_decimal digit && all in_decimal (drop (suc place) ds)) ≡ true = rw here at decimal in
    let one : in_decimal digit ≡ true = (and_parts (in_decimal digit) (all in_decimal (drop (suc place) ds)) both).0 in
    let is : is_digit digit ≡ true = or_false (is_digit digit) (digit == 95) one (ne_eqb digit 95 keep) in
    let value_is = digit_value_is digit is in
    let grows = value_grows (value * 10 + digit_value digit) (plain_digits (drop (place + 1) ds)) in
    omega arith

pub big_none : (v : ℕ) → 4294967296 ≤ v → None ≡ (if nat_lt v 4294967296 then Some v else None)
big_none v h = let off : nat_lt v 4294967296 ≡ false = le-ltb v 4294967296 h in rw off refl

none_big : (v : ℕ) (b : Bool) → nat_lt v 4294967296 ≡ b → (if b then Some v else None) ≡ None → 128 < v
none_big v true e h = absurd cc
none_big v false e h = let f = ltb-false v 4294967296 e in omega arith

pub too_wide : (v base : ℕ) (ds : List ℕ) → 128 < v → None ≡ literal_of v base ds
unfolding literal_of
too_wide v base ds h = let off : nat_le v 128 ≡ false = grind (arith, nat_tests) in rw (off, and_false (nat_le 1 v)) refl
  where
    and_false : (a : Bool) → (a && false) ≡ false
    and_false true = refl
    and_false false = refl

pub width_none : (v base : ℕ) (ds : List ℕ) (o : Option ℕ) → o ≡ (if nat_lt v 4294967296 then Some v else None) → o ≡ None → None ≡ literal_of v base ds
width_none v base ds o e h = too_wide v base ds (none_big v (nat_lt v 4294967296) refl (sym e ∙ h))

some_value : (v w : ℕ) (b : Bool) → (if b then Some v else None) ≡ Some w → v ≡ w
some_value v w true h = cc
some_value v w false h = absurd cc

pub width_over : (v base w : ℕ) (ds : List ℕ) (o : Option ℕ) → o ≡ (if nat_lt v 4294967296 then Some v else None) → o ≡ Some w → 128 < w → None ≡ literal_of v base ds
width_over v base w ds o e h over =
    let same = some_value v w (nat_lt v 4294967296) (sym e ∙ h) in
    too_wide v base ds (omega arith)

-- ---- right digits

any_plain : (ds : List ℕ) → 0 < length (plain_digits ds) → Any (λ c. c ≢ 95) ds
any_plain [] h = absurd (omega arith)
any_plain (d ∷ ds) h = elim (bool_cases (d == 95)) [
  | inr e ↦ (0, d, omega arith, refl, λ same. not_both (d == 95) (rw same refl) e)
  | inl e ↦
      let less : 0 < length (plain_digits ds) = rw e at h in
      let a = any_plain ds less in
      let lt : a.0 < length ds = a.2 in
      (suc a.0, a.1, omega arith, a.3, a.4)
]

decimal_plain : (ds : List ℕ) → all is_digit (plain_digits ds) ≡ true → all in_decimal ds ≡ true
decimal_plain [] h = refl
decimal_plain (d ∷ ds) h = elim (bool_cases (d == 95)) [
  | inl e ↦
      let rest : all is_digit (plain_digits ds) ≡ true = rw e at h in
      let one : in_decimal d ≡ true = rw e (or_right (is_digit d)) in
      rw (one, decimal_plain ds rest) refl
  | inr e ↦
      let both : (is_digit d && all is_digit (plain_digits ds)) ≡ true = rw e at h in
      let parts = and_parts (is_digit d) (all is_digit (plain_digits ds)) both in
      let one : in_decimal d ≡ true = rw parts.0 refl in
      rw (one, decimal_plain ds parts.1) refl
]

pub right_any : (base : ℕ) (ds : List ℕ) → are_digits base ds ≡ true → Any (λ c. c ≢ 95) ds
unfolding are_digits
right_any base ds h =
    let parts = and_parts (nat_lt 0 (length (plain_digits ds))) (are_right base (plain_digits ds)) h in
    any_plain ds (ltb-true 0 (length (plain_digits ds)) parts.0)

pub right_decimal : (ds : List ℕ) → are_digits 10 ds ≡ true → is_only is_x_or_z (plain_digits ds) ≡ false → all in_decimal ds ≡ true
unfolding are_digits
right_decimal ds h off =
    let parts = and_parts (nat_lt 0 (length (plain_digits ds))) (are_right 10 (plain_digits ds)) h in
    let digits : all is_digit (plain_digits ds) ≡ true = rw off at parts.1 in
    decimal_plain ds digits

-- ---- runs

pub run_formed : (p : ℕ → Bool) (bs : List ℕ) → all p (take (run p bs) bs) ≡ true
run_formed p [] = refl
run_formed p (b ∷ bs) = elim (bool_cases (p b)) [
  | inl e ↦ rw e (rw e (run_formed p bs))
  | inr e ↦ rw e refl
]

plain_decimal : (ds : List ℕ) → all in_decimal ds ≡ true → all is_digit (plain_digits ds) ≡ true
plain_decimal [] h = refl
plain_decimal (d ∷ ds) h =
    let parts = and_parts (in_decimal d) (all in_decimal ds) h in
    elim (bool_cases (d == 95)) [
      | inl e ↦ rw e (plain_decimal ds parts.1)
      | inr e ↦ let one : is_digit d ≡ true = or_false (is_digit d) (d == 95) parts.0 e in rw e (rw (one, plain_decimal ds parts.1) refl)
    ]

digit_is_plain : (b : ℕ) → is_digit b ≡ true → (b == 95) ≡ false
digit_is_plain b e = grind (arith, nat_tests)

pub decimal_right : (ds : List ℕ) → all in_decimal ds ≡ true → is_digit (get_or ds 0 0) ≡ true → are_digits 10 ds ≡ true
unfolding are_digits
decimal_right [] h d = absurd cc
decimal_right (b ∷ ds) h d =
    let e = digit_is_plain b d in
    let digits = plain_decimal (b ∷ ds) h in
    let some : nat_lt 0 (length (plain_digits (b ∷ ds))) ≡ true = rw e (lt-ltb 0 (suc (length (plain_digits ds))) (omega arith)) in
    rw (some, digits) (or_right (is_only is_x_or_z (plain_digits (b ∷ ds))))

pub first_digit : (text : List ℕ) → (is_digit (get_or text 0 0) || get_or text 0 0 == 39) ≡ true → (run in_decimal text ≡ 0 → ⊥) → is_digit (get_or (take (run in_decimal text) text) 0 0) ≡ true
first_digit [] e some = absurd (some refl)
first_digit (b ∷ bs) e some = elim (bool_cases (in_decimal b)) [
  | inr off ↦ absurd (some (rw off refl))
  | inl on ↦ rw on (or_false (is_digit b) (b == 39) e (no_quote b on))
]
  where
    no_quote : (b : ℕ) → in_decimal b ≡ true → (b == 39) ≡ false
    no_quote b on = grind (arith, nat_tests)
