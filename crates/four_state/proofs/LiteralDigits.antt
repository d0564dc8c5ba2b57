-- One digit of a literal, and the vector of all of them, on words.
use Rattle.std.proofs.Common.{◌≡◌, ℕ, zero, suc, ◌+◌, ◌-◌, ◌*◌, ◌/◌, ◌%◌, ◌^◌, ◌<◌, ◌≤◌, Bool, true, false, not, nat_eq, List, refl, ap, sym, ◌∙◌, arith, Some, None, inl, inr, min, bit_and, bit_or}
use Rattle.std.specs.Char.{digit_value}
use Rattle.std.specs.Int.{bit_at}
use Rattle.std.proofs.lemmas.Bool.{lt-ltb, le-ltb, cases_lt}
use Rattle.std.proofs.lemmas.Nat.{one_shl, pow_pos, pow-add, shr_split, mod_below, shl_whole, or_shifted, mul-add-lt}
use Rattle.std.proofs.lemmas.Nat.Bits.{shr_and_one, bit_at-lt}
use Rattle.std.proofs.Math.Nat.{add_comm, mul_comm, mul-le-mul_right}
use Rattle.std.proofs.Math.Pow.{pow_mono}
use Rattle.four_state.specs.Bits.{is_known, top_bit, extended}
use Rattle.four_state.specs.Literals.{is_x, is_z, digit_bits, fitted}
use Rattle.four_state.specs.Readings.{IsDigit, Follows}
use Rattle.four_state.specs.Words.{bit_of, bits_of}
use Rattle.four_state.specs.declared.bit.Bit.{Bit}
use Rattle.four_state.proofs.Extending.{bits_of-replicate, cut, top_bit-bits_of}
use Rattle.four_state.proofs.Numbers.{bits_of-zero}

-- ---- one digit
pub radix_is : (k : ℕ) → k ≤ 4 → (1 * 2 ^ k) % 2 ^ 32 ≡ 2 ^ k
radix_is k h = one_shl k 32 (omega arith)

pub radix_low : (k : ℕ) → 1 ≤ k → 2 ≤ 2 ^ k
radix_low k h = let p : 2 ^ 1 ≤ 2 ^ k = pow_mono h in p

pub radix_high : (k : ℕ) → k ≤ 4 → 2 ^ k ≤ 36
radix_high k h = let p : 2 ^ k ≤ 2 ^ 4 = pow_mono h in omega arith

-- the words of each kind of digit
module _ (places digit all : ℕ) (e : all ≡ 2 ^ places - 1) where
  all_fit : all < 2 ^ places
  all_fit = let p = pow_pos places in omega arith

  pub x_digit : is_x digit ≡ true → IsDigit places digit 0 all
  unfolding digit_bits
  x_digit h = record {
    bits = rw (h, e) (ap Some (sym (rw (none, one) at (bits_of-replicate places 0 1 (omega arith) (omega arith)))));
    ones_fit = pow_pos places;
    unknown_fit = all_fit;
  }
    where
      none : 0 * (2 ^ places - 1) ≡ 0
      none = omega arith

      one : 1 * (2 ^ places - 1) ≡ 2 ^ places - 1
      one = omega arith

  pub z_digit : is_x digit ≡ false → is_z digit ≡ true → IsDigit places digit all all
  unfolding digit_bits
  z_digit h k = record {
    bits = rw (h, k, e) (ap Some (sym (rw one at (bits_of-replicate places 1 1 (omega arith) (omega arith)))));
    ones_fit = all_fit;
    unknown_fit = all_fit;
  }
    where
      one : 1 * (2 ^ places - 1) ≡ 2 ^ places - 1
      one = omega arith

pub known_digit : (places digit value : ℕ) → is_x digit ≡ false → is_z digit ≡ false → digit_value digit < 2 ^ places → value ≡ digit_value digit → IsDigit places digit value 0
unfolding digit_bits
known_digit places digit value h k fits e = record {
  bits = rw (h, k, lt-ltb (digit_value digit) (2 ^ places) fits, e) (ap Some (sym (bits_of-zero places (digit_value digit))));
  ones_fit = rw e fits;
  unknown_fit = pow_pos places;
}

pub no_digit : (places digit : ℕ) → is_x digit ≡ false → is_z digit ≡ false → (digit_value digit < 2 ^ places → ⊥) → digit_bits places digit ≡ None
unfolding digit_bits
no_digit places digit h k past = rw (h, k, le-ltb (digit_value digit) (2 ^ places) (omega arith))

-- ---- one digit more
pub below_quotient : (n k : ℕ) → n / 2 ^ k ≡ 0 → n < 2 ^ k
below_quotient n k e =
    let split = shr_split n k in
    let low = mod_below n (2 ^ k) (pow_pos k) in
    let f : n / 2 ^ k * 2 ^ k ≡ 0 = rw e (omega arith) in
    omega arith

pub joined_fits : (a b h n : ℕ) → a < 2 ^ h → b < 2 ^ n → a * 2 ^ n + b < 2 ^ (h + n)
joined_fits a b h n fa fb =
    let e : 2 ^ (h + n) ≡ 2 ^ n * 2 ^ h = rw (add_comm h n) (pow-add 2 n h) in
    rw e (mul-add-lt a (2 ^ n) b (2 ^ h) fa fb)

pub follows : (places digit ones unknown one x : ℕ) → places ≤ 4 → IsDigit places digit one x → ones / 2 ^ (128 - places) ≡ 0 → unknown / 2 ^ (128 - places) ≡ 0 → Follows places digit ones unknown (bit_or (ones * 2 ^ places % 2 ^ 128) one) (bit_or (unknown * 2 ^ places % 2 ^ 128) x)
follows places digit ones unknown one x high d eo eu =
    let all : 128 - places + places ≡ 128 = omega arith in
    let within : 128 - places + places ≤ 128 = omega arith in
    let fo = below_quotient ones (128 - places) eo in
    let fu = below_quotient unknown (128 - places) eu in
    let e = shl_whole ones (128 - places) places 128 fo within in
    let f = shl_whole unknown (128 - places) places 128 fu within in
    let g = or_shifted ones places one d.ones_fit in
    let h = or_shifted unknown places x d.unknown_fit in
    record {
      one = one;
      x = x;
      digit_is = d;
      ones_is = rw e g;
      unknown_is = rw f h;
      ones_fit = rw (e, g) (rw all at (joined_fits ones one (128 - places) places fo d.ones_fit));
      unknown_fit = rw (f, h) (rw all at (joined_fits unknown x (128 - places) places fu d.unknown_fit));
    }

-- ---- the vector of all digits
pub whole_width : (places count : ℕ) → 1 ≤ places → min (min count 128 * places) 128 ≡ min 128 (places * count)
whole_width places count h =
    elim (cases_lt 128 count)
    [ inl more ↦ wide more | inr less ↦ (let e : min count 128 ≡ count = omega arith in rw (e, mul_comm count places) (omega arith)) ]
  where
    wide : 128 < count → min (min count 128 * places) 128 ≡ min 128 (places * count)
    wide more =
        let e : min count 128 ≡ 128 = omega arith in
        let bound : 1 * count ≤ places * count = mul-le-mul_right count h in
        rw e (omega arith)

unknown_digit : (d e : ℕ) → d < 2 → e < 2 → nat_eq e 1 ≡ not (is_known (bit_of d e))
unknown_digit zero zero h k = refl
unknown_digit (suc zero) zero h k = refl
unknown_digit zero (suc zero) h k = refl
unknown_digit (suc zero) (suc zero) h k = refl
unknown_digit (suc (suc d)) e h k = absurd (omega arith)
unknown_digit d (suc (suc e)) h k = absurd (omega arith)

pub fitted_words : (n w o u all : ℕ) (signed : Bool) (r : List Bit) → 0 < n → w ≤ 128 → all ≡ min 128 n → signed ≡ nat_eq (bit_and (u / 2 ^ (all - 1)) 1) 1 → r ≡ extended w signed (bits_of all o u) → r ≡ fitted w (bits_of n o u)
unfolding fitted
fitted_words n w o u all signed r positive high ea es value =
    elim (cases_lt 128 n) [ inl more ↦ wide more | inr less ↦ narrow less ]
  where
    wide : 128 < n → r ≡ extended w (not (is_known (top_bit (bits_of n o u)))) (bits_of n o u)
    wide more =
        let e : all ≡ 128 = omega arith in
        let within : w ≤ n = omega arith in
        value ∙ rw e (sym (cut 128 o u w signed high) ∙ cut n o u w (not (is_known (top_bit (bits_of n o u)))) within)

    narrow : n ≤ 128 → r ≡ extended w (not (is_known (top_bit (bits_of n o u)))) (bits_of n o u)
    narrow less =
        let e : all ≡ n = omega arith in
        let top : signed ≡ not (is_known (top_bit (bits_of n o u))) =
        es ∙ rw (e, shr_and_one, top_bit-bits_of n o u positive) (unknown_digit (bit_at o (n - 1)) (bit_at u (n - 1)) (bit_at-lt o (n - 1)) (bit_at-lt u (n - 1))) in
        rw (value, top, e)

pub positive_product : (a b : ℕ) → 0 < a → 0 < b → 0 < a * b
positive_product (suc a) (suc b) h k = omega arith
positive_product zero b h k = absurd (omega arith)
positive_product (suc a) zero h k = absurd (omega arith)
