-- Digits in a base of 2 to the places, read from the first one on.
use Rattle.std.proofs.Common.{◌≡◌, ℕ, zero, suc, ◌+◌, ◌-◌, ◌*◌, ◌/◌, ◌^◌, ◌<◌, ◌≤◌, Bool, true, false, cond, nat_eq, List, [], ◌∷◌, ◌++◌, length, drop, replicate, refl, ap, sym, ◌∙◌, arith, Option, Some, None, option_map, option_and_then, append-nil, append_assoc, add-one, get_or, inl, inr, min, ◌⊎◌}
use Rattle.std.specs.Char.{digit_value, is_digit}
use Rattle.std.specs.List.{list_all}
use Rattle.std.proofs.lemmas.Bool.{cases_lt, ne_eqb, eqb-true, and_parts, false_from_ne_true}
use Rattle.std.proofs.lemmas.Nat.{pow_pos, shr_below}
use Rattle.std.proofs.Math.Pow.{pow_mono}
use Rattle.std.proofs.Math.Seq.{drop-cons, drop-length, drop-append-add}
use Rattle.std.proofs.lemmas.List.{length-replicate, drop-drop}
use Rattle.four_state.specs.Bits.{bit_eq}
use Rattle.four_state.specs.Literals.{is_x, is_z, plain_digits, digit_bits, digits_bits, fits_in_128, fitted, literal_by_places}
use Rattle.four_state.specs.Numbers.{vector_of}
use Rattle.four_state.specs.Readings.{Follows, CannotFollow}
use Rattle.four_state.specs.Words.{bits_of}
use Rattle.four_state.specs.declared.bit.Bit.{Bit}
use Rattle.four_state.specs.declared.bit.Bit.TheVariants.{Zero, X, Z}
use Rattle.four_state.proofs.Extending.{below_wider}
use Rattle.four_state.proofs.Numbers.{length-vector_of}
use Rattle.four_state.proofs.Logic.{all_zero}
use Rattle.four_state.proofs.Shifts.{bits_of-joined, drop-bits_of}
use Rattle.four_state.proofs.LiteralDigits.{below_quotient, joined_fits}

-- ---- all digits, from the first one on
-- the digits before a place are read: the words and their count
pub record HasRead (places : ℕ) (digits : List ℕ) (place count ones unknown : ℕ) : Type 0 where
  pub whole : digits_bits places (plain_digits digits) ≡ option_map (λ low. low ++ bits_of (places * count) ones unknown) (digits_bits places (plain_digits (drop place digits)))
  pub left : count + length (plain_digits (drop place digits)) ≡ length (plain_digits digits)
  pub ones_fit : ones < 2 ^ min 128 (places * count)
  pub unknown_fit : unknown < 2 ^ min 128 (places * count)

map_nil : (o : Option (List Bit)) → o ≡ option_map (λ low. low ++ []) o
map_nil None = refl
map_nil (Some bits) = ap Some (sym (append-nil bits))

pub read_none : (places : ℕ) (digits : List ℕ) → HasRead places digits 0 0 0 0
unfolding bits_of
read_none places digits =
    let e : places * 0 ≡ 0 = omega arith in
    record {
      whole = rw e (map_nil (digits_bits places (plain_digits digits)));
      left = omega arith;
      ones_fit = rw e (omega arith);
      unknown_fit = rw e (omega arith);
    }

pub plain_skip : (digits : List ℕ) (place digit : ℕ) → place < length digits → get_or digits place 0 ≡ digit → digit ≡ 95 → plain_digits (drop place digits) ≡ plain_digits (drop (suc place) digits)
plain_skip digits place digit h e skip = rw (drop-cons digits place 0 h, e, skip)

pub plain_take : (digits : List ℕ) (place digit : ℕ) → place < length digits → get_or digits place 0 ≡ digit → (digit ≡ 95 → ⊥) → plain_digits (drop place digits) ≡ digit ∷ plain_digits (drop (suc place) digits)
plain_take digits place digit h e keep = rw (drop-cons digits place 0 h, e, ne_eqb digit 95 keep)

map_append : (o : Option (List Bit)) (middle high : List Bit) → option_map (λ low. low ++ high) (option_map (λ low. low ++ middle) o) ≡ option_map (λ low. low ++ (middle ++ high)) o
map_append None middle high = refl
map_append (Some low) middle high = ap Some (append_assoc low middle high)

fits_min : (n k : ℕ) → n < 2 ^ 128 → n < 2 ^ k → n < 2 ^ min 128 k
fits_min n k h i =
    elim (cases_lt 128 k) [
      | inl more ↦ (let e : min 128 k ≡ 128 = omega arith in rw e h)
      | inr less ↦ (let e : min 128 k ≡ k = omega arith in rw e i)
    ]

from_min : (n k : ℕ) → n < 2 ^ min 128 k → n < 2 ^ k
from_min n k h = let e : min 128 k ≤ k = omega arith in let p : 2 ^ min 128 k ≤ 2 ^ k = pow_mono e in omega arith

from_min_128 : (n k : ℕ) → n < 2 ^ min 128 k → n < 2 ^ 128
from_min_128 n k h = let e : min 128 k ≤ 128 = omega arith in let p : 2 ^ min 128 k ≤ 2 ^ 128 = pow_mono {j = 128} e in omega arith

-- a `_` is passed over
pub read_skip : (places place count ones unknown digit : ℕ) (digits : List ℕ) → HasRead places digits place count ones unknown → place < length digits → get_or digits place 0 ≡ digit → digit ≡ 95 → HasRead places digits (place + 1) count ones unknown
read_skip places place count ones unknown digit digits r h e skip =
    let same = plain_skip digits place digit h e skip in
    rw add-one (record {
      whole = rw same at r.whole;
      left = rw same at r.left;
      ones_fit = r.ones_fit;
      unknown_fit = r.unknown_fit;
    })

-- a digit is read
pub read_more : (places place count ones unknown ones' unknown' digit : ℕ) (digits : List ℕ) → HasRead places digits place count ones unknown → place < length digits → get_or digits place 0 ≡ digit → (digit ≡ 95 → ⊥) → Follows places digit ones unknown ones' unknown' → HasRead places digits (place + 1) (count + 1) ones' unknown'
unfolding digits_bits
read_more places place count ones unknown ones' unknown' digit digits r h e keep f =
    let next = plain_take digits place digit h e keep in
    let rest = digits_bits places (plain_digits (drop (suc place) digits)) in
    let more : places * (count + 1) ≡ places * count + places = omega arith in
    let joined = bits_of-joined places (places * count) ones unknown f.one f.x f.digit_is.ones_fit f.digit_is.unknown_fit in
    let acc : bits_of (places * (count + 1)) ones' unknown' ≡ bits_of places f.one f.x ++ bits_of (places * count) ones unknown = rw (more, f.ones_is, f.unknown_is) joined in
    rw add-one (record {
      whole = (rw (next, f.digit_is.bits) at r.whole) ∙ rw acc (map_append rest (bits_of places f.one f.x) (bits_of (places * count) ones unknown));
      left = omega (arith, rw next at r.left);
      ones_fit = fits_min ones' (places * (count + 1)) f.ones_fit (rw (more, f.ones_is) (joined_fits ones f.one (places * count) places (from_min ones (places * count) r.ones_fit) f.digit_is.ones_fit));
      unknown_fit = fits_min unknown' (places * (count + 1)) f.unknown_fit (rw (more, f.unknown_is) (joined_fits unknown f.x (places * count) places (from_min unknown (places * count) r.unknown_fit) f.digit_is.unknown_fit));
    })

-- ---- the end
-- the upper bits of words below 2 ^ 128 are 0
fits_words : (n o u : ℕ) → o < 2 ^ 128 → u < 2 ^ 128 → fits_in_128 (bits_of n o u) ≡ true
unfolding fits_in_128
fits_words n o u ho hu =
    let e : o / 2 ^ 128 ≡ 0 = omega arith in
    let f : u / 2 ^ 128 ≡ 0 = omega arith in
    rw (drop-bits_of 128 n o u, e, f) (all_zero (n - 128) 0 0 (pow_pos (n - 128)) (pow_pos (n - 128)))

pub read_all : (places width count ones unknown : ℕ) (digits : List ℕ) (v : List Bit) → HasRead places digits (length digits) count ones unknown → v ≡ fitted width (bits_of (places * count) ones unknown) → Some v ≡ literal_by_places places width (plain_digits digits)
unfolding literal_by_places digits_bits
read_all places width count ones unknown digits v read value =
    let none : drop (length digits) digits ≡ [] = drop-length digits in
    let whole = rw none at read.whole in
    rw (whole, fits_words (places * count) ones unknown (from_min_128 ones (places * count) read.ones_fit) (from_min_128 unknown (places * count) read.unknown_fit), value)

-- ---- no literal
all_but_front : (j : ℕ) (bits : List Bit) → list_all (bit_eq Zero) bits ≡ true → list_all (bit_eq Zero) (drop j bits) ≡ true
all_but_front zero bits h = h
all_but_front (suc j) [] h = refl
all_but_front (suc j) (b ∷ bits) h = all_but_front j bits (and_parts (bit_eq Zero b) (list_all (bit_eq Zero) bits) h).1

-- all bits from place m on are 0: the words are below 2 ^ m
zero_above : (n m o u : ℕ) → o < 2 ^ n → u < 2 ^ n → list_all (bit_eq Zero) (drop m (bits_of n o u)) ≡ true → (o < 2 ^ m) × (u < 2 ^ m)
zero_above n m o u ho hu h =
    elim (cases_lt n m) [
      | inl less ↦ (let e : n ≤ m = omega arith in (below_wider o n m ho e, below_wider u n m hu e))
      | inr more ↦ (let e : n - m + m ≡ n = omega arith in
          let z = rw (drop-bits_of m n o u, all_zero (n - m) (o / 2 ^ m) (u / 2 ^ m) (shr_below o (n - m) m (rw e ho)) (shr_below u (n - m) m (rw e hu))) at h in
          let both = and_parts (nat_eq (o / 2 ^ m) 0) (nat_eq (u / 2 ^ m) 0) z in
          (below_quotient o m (eqb-true _ _ both.0), below_quotient u m (eqb-true _ _ both.1)))
    ]

-- a bit of the words that isn't 0 stays above 128 places when more digits follow
too_long : (places n o u : ℕ) (low middle : List Bit) → places ≤ 4 → length middle ≡ places → o < 2 ^ n → u < 2 ^ n → ((2 ^ (128 - places) ≤ o) ⊎ (2 ^ (128 - places) ≤ u)) → fits_in_128 (low ++ (middle ++ bits_of n o u)) ≡ false
unfolding fits_in_128
too_long places n o u low middle high width ho hu more = false_from_ne_true _ (λ t.
    let acc = bits_of n o u in
    let e : 128 + length low ≡ length low + (length middle + (128 - places)) = omega arith in
    let moved = drop-drop (length low) 128 (low ++ (middle ++ acc)) ∙ ap (λ k. drop k (low ++ (middle ++ acc))) e ∙ drop-append-add low (middle ++ acc) (length middle + (128 - places)) ∙ drop-append-add middle acc (128 - places) in
    let upper = rw moved at (all_but_front (length low) (drop 128 (low ++ (middle ++ acc))) t) in
    let below = zero_above n (128 - places) o u ho hu upper in
    elim more [ inl one ↦ absurd (omega arith) | inr x ↦ absurd (omega arith) ])

length-digit_bits : (places digit : ℕ) (bits : List Bit) → digit_bits places digit ≡ Some bits → length bits ≡ places
unfolding digit_bits
length-digit_bits places digit bits e = by_kind (is_x digit) (is_z digit) (is_digit digit (2 ^ places)) e
  where
    by_kind : (x z d : Bool) → cond {A = Option (List Bit)} x (Some (replicate places X)) (cond z (Some (replicate places Z)) (cond d (Some (vector_of places (digit_value digit))) None)) ≡ Some bits → length bits ≡ places
    by_kind true z d e = let f : replicate places X ≡ bits = cc in rw (← f) (length-replicate places X)
    by_kind false true d e = let f : replicate places Z ≡ bits = cc in rw (← f) (length-replicate places Z)
    by_kind false false true e = let f : vector_of places (digit_value digit) ≡ bits = cc in rw (← f) (length-vector_of places (digit_value digit))
    by_kind false false false e = cc

-- nothing is read where a digit can't follow
pub read_fails : (places width place count ones unknown digit : ℕ) (digits : List ℕ) → places ≤ 4 → HasRead places digits place count ones unknown → place < length digits → get_or digits place 0 ≡ digit → (digit ≡ 95 → ⊥) → CannotFollow places digit ones unknown → None ≡ literal_by_places places width (plain_digits digits)
unfolding literal_by_places digits_bits
read_fails places width place count ones unknown digit digits high r h e keep fails =
    let next = plain_take digits place digit h e keep in
    rw (r.whole, next) (cases (digit_bits places digit) refl (digits_bits places (plain_digits (drop (suc place) digits))))
  where
    acc : List Bit
    acc = bits_of (places * count) ones unknown

    cases : (found : Option (List Bit)) → digit_bits places digit ≡ found → (rest : Option (List Bit)) → None ≡ option_and_then (λ bits. cond {A = Option (List Bit)} (fits_in_128 bits) (Some (fitted width bits)) None) (option_map (λ low. low ++ acc) (option_and_then (λ middle. option_map (λ low. low ++ middle) rest) found))
    cases None e rest = refl
    cases (Some middle) e None = refl
    cases (Some middle) e (Some low) =
        let more : (2 ^ (128 - places) ≤ ones) ⊎ (2 ^ (128 - places) ≤ unknown) = elim fails [ inl none ↦ cc | inr past ↦ past ] in
        let long = too_long places (places * count) ones unknown low middle high (length-digit_bits places digit middle e) (from_min ones (places * count) r.ones_fit) (from_min unknown (places * count) r.unknown_fit) more in
        rw (append_assoc low middle acc, long)
