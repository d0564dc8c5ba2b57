-- Arithmetic on words.
use Rattle.std.proofs.Common.{◌≡◌, ℕ, zero, suc, ◌+◌, ◌-◌, ◌*◌, ◌/◌, ◌%◌, ◌^◌, ◌<◌, ◌≤◌, Bool, true, false, not, nat_eq, List, [], ◌∷◌, length, refl, ap, sym, ◌∙◌, arith, ℤ, pos, negsuc, ◌-ℤ◌, ◌+ℤ◌, neg_ℤ, to_z, of_z, FitsSigned, Option, Some, None, cond}
use Rattle.std.proofs.lemmas.Int.{ints, int_rem_euclid_is, to_z-of_z, of_z-to_z}
use Rattle.std.proofs.lemmas.Bool.{and_parts, not-true, eqb-false}
use Rattle.std.proofs.Math.Pow.{pow_mono}
use Rattle.std.proofs.lemmas.Nat.{pow_pos, pow-add}
use Rattle.std.proofs.Math.Nat.{le_refl, div-le_self}
use Rattle.std.specs.Prelude.{unsigned_abs, int_div, int_rem}
use Rattle.std.specs.Int.{w128, int_wrapping_div}
use Rattle.std.specs.Int.Signed.{mag, mag_rem}
use Rattle.four_state.specs.Arithmetic.{where_known, sum_of, difference_of, product_of, negated_of, can_divide, quotient_of, remainder_of}
use Rattle.four_state.specs.Bits.{all_known, all_x, both_known, top_bit}
use Rattle.four_state.specs.Numbers.{digit_of, less_the_top, number_of, signed_number_of, vector_of, vector_of_integer, numbers_of}
use Rattle.four_state.specs.declared.bit.Bit.{Bit}
use Rattle.four_state.specs.declared.bit.Bit.TheVariants.{Zero, One, X, Z}
use Rattle.four_state.proofs.Numbers.{vector_of-low}
use Rattle.four_state.proofs.Signs.{difference_below}

-- an integer that is n but for a multiple of 2 to the width
pub vector_of_integer-is : (w n k : ℕ) (z : ℤ) → z +ℤ pos (k * 2 ^ w) ≡ pos n → vector_of_integer w z ≡ vector_of w n
unfolding vector_of_integer
vector_of_integer-is w n k z e =
    ap (λ r. vector_of w (unsigned_abs r)) (int_rem_euclid_is z (pos (2 ^ w)) (2 ^ w) k n (pow_pos w) refl e)
    ∙ vector_of-low w w n (le_refl w)

-- two to 128 is a multiple of two to the width
word_multiple : (w : ℕ) → w ≤ 128 → 2 ^ (128 - w) * 2 ^ w ≡ 2 ^ 128
word_multiple w h = let e : 128 - w + w ≡ 128 = omega arith in sym (pow-add 2 (128 - w) w) ∙ ap (λ k. 2 ^ k) e

told : (k : Bool) (m n x y : ℕ) → cond {A = Option (ℕ × ℕ)} k (Some (m, n)) None ≡ Some (x, y) → (k ≡ true) × (x ≡ m) × (y ≡ n)
told true m n x y e = let p : ◌≡◌ {A = ℕ × ℕ} (m, n) (x, y) = cc in (refl, sym (ap (λ q. q.0) p), sym (ap (λ q. q.1) p))
told false m n x y e = cc

untold : (k : Bool) (m n : ℕ) → cond {A = Option (ℕ × ℕ)} k (Some (m, n)) None ≡ None → k ≡ false
untold true m n e = cc
untold false m n e = refl

-- a result where the numbers are told, and all x where they aren't
pub known_result : (a b : List Bit) (x y : ℕ) (r known : List Bit) → numbers_of a b ≡ Some (x, y) → (x ≡ number_of a → y ≡ number_of b → r ≡ known) → r ≡ where_known a b known
unfolding numbers_of
known_result a b x y r known e f =
    let t = told (both_known a b) (number_of a) (number_of b) x y e in
    rw t.0 (f t.1 t.2)

pub unknown_result : (a b : List Bit) (w : ℕ) (r known : List Bit) → numbers_of a b ≡ None → w ≡ length a → r ≡ all_x w → r ≡ where_known a b known
unfolding numbers_of
unknown_result a b w r known e width value =
    rw (untold (both_known a b) (number_of a) (number_of b) e, ← width) value

-- + on words
pub sum_known : (a b : List Bit) (x y w : ℕ) (r : List Bit) → numbers_of a b ≡ Some (x, y) → w ≡ length a → w ≤ 128 → r ≡ vector_of w ((x + y) % 2 ^ 128) → r ≡ sum_of a b
unfolding sum_of
sum_known a b x y w r e width high value =
    known_result a b x y r _ e (λ ex ey. rw (value, ← width, ← ex, ← ey) (vector_of-low w 128 (x + y) high))

sub_multiple : (x y p : ℕ) → y ≤ p → (pos x -ℤ pos y) +ℤ pos p ≡ pos (x + (p - y))
sub_multiple x y p h = omega (arith, ints)

-- - on words
pub difference_known : (a b : List Bit) (x y w : ℕ) (r : List Bit) → y < 2 ^ 128 → numbers_of a b ≡ Some (x, y) → w ≡ length a → w ≤ 128 → r ≡ vector_of w ((x + (2 ^ 128 - y)) % 2 ^ 128) → r ≡ difference_of a b
unfolding difference_of
difference_known a b x y w r fits e width high value =
    known_result a b x y r _ e (λ ex ey.
    rw (value, ← width, ← ex, ← ey)
    (vector_of-low w 128 (x + (2 ^ 128 - y)) high
    ∙ sym (vector_of_integer-is w (x + (2 ^ 128 - y)) (2 ^ (128 - w)) (pos x -ℤ pos y) (rw (word_multiple w high) (sub_multiple x y (2 ^ 128) (omega arith))))))

-- * on words
pub product_known : (a b : List Bit) (x y w : ℕ) (r : List Bit) → numbers_of a b ≡ Some (x, y) → w ≡ length a → w ≤ 128 → r ≡ vector_of w ((x * y) % 2 ^ 128) → r ≡ product_of a b
unfolding product_of
product_known a b x y w r e width high value =
    known_result a b x y r _ e (λ ex ey. rw (value, ← width, ← ex, ← ey) (vector_of-low w 128 (x * y) high))

neg_multiple : (x p : ℕ) → x ≤ p → neg_ℤ (pos x) +ℤ pos p ≡ pos (0 + (p - x))
neg_multiple x p h = omega (arith, ints)

-- unary - on words
pub negated_known : (a : List Bit) (x w : ℕ) (r : List Bit) → x < 2 ^ 128 → all_known a ≡ true → x ≡ number_of a → w ≡ length a → w ≤ 128 → r ≡ vector_of w ((0 + (2 ^ 128 - x)) % 2 ^ 128) → r ≡ negated_of a
unfolding negated_of
negated_known a x w r fits known number width high value =
    rw (known, value, ← width, ← number)
    (vector_of-low w 128 (0 + (2 ^ 128 - x)) high
    ∙ sym (vector_of_integer-is w (0 + (2 ^ 128 - x)) (2 ^ (128 - w)) (neg_ℤ (pos x)) (rw (word_multiple w high) (neg_multiple x (2 ^ 128) (omega arith)))))

pub negated_unknown : (a : List Bit) (w : ℕ) (r : List Bit) → all_known a ≡ false → w ≡ length a → r ≡ all_x w → r ≡ negated_of a
unfolding negated_of
negated_unknown a w r unknown width value = rw (unknown, ← width) value

-- a signed word as its bits
word_of_integer : (w : ℕ) (z : ℤ) → w ≤ 128 → mag z < 2 ^ 128 → vector_of w (of_z w128 z) ≡ vector_of_integer w z
word_of_integer w (pos n) high fits = sym (vector_of_integer-is w n 0 (pos n) (omega (arith, ints)))
word_of_integer w (negsuc n) high fits =
    sym (vector_of_integer-is w (2 ^ 128 - suc n) (2 ^ (128 - w)) (negsuc n) (rw (word_multiple w high) (below n (2 ^ 128) fits)))
  where
    below : (n p : ℕ) → n < p → negsuc n +ℤ pos p ≡ pos (p - suc n)
    below n p h = omega (arith, ints)

mag-neg_le : (q : ℕ) → mag (neg_ℤ (pos q)) ≤ q
mag-neg_le zero = omega arith
mag-neg_le (suc q) = omega arith

-- the quotient of words of 128 bits
quotient_small : (a d : ℤ) → mag a < 2 ^ 127 → mag (int_div a d) < 2 ^ 128
quotient_small (pos a) (pos b) h = omega (arith, div-le_self a b)
quotient_small (pos a) (negsuc b) h = omega (arith, mag-neg_le (a / suc b), div-le_self a (suc b))
quotient_small (negsuc a) (pos b) h = omega (arith, mag-neg_le (suc a / b), div-le_self (suc a) b)
quotient_small (negsuc a) (negsuc b) h = omega (arith, div-le_self (suc a) (suc b))

-- a number fits its width
digit_of-le : (b : Bit) → digit_of b ≤ 1
digit_of-le Zero = omega arith
digit_of-le One = omega arith
digit_of-le X = omega arith
digit_of-le Z = omega arith

lt_digit : (d n k : ℕ) → d ≤ 1 → n < 2 ^ k → d + 2 * n < 2 ^ suc k
lt_digit d n k h fits = omega arith

pub number_of-lt : (bits : List Bit) → number_of bits < 2 ^ length bits
unfolding number_of
number_of-lt [] = omega arith
number_of-lt (b ∷ bits) = lt_digit (digit_of b) (number_of bits) (length bits) (digit_of-le b) (number_of-lt bits)

-- a number that isn't 0 isn't 0 in two's complement
less_the_top-nonzero : (b : Bit) (n w : ℕ) → 0 < n → n < 2 ^ w → w ≤ 128 → 0 < of_z w128 (less_the_top b n w)
less_the_top-nonzero Zero n w h fits high = h
less_the_top-nonzero X n w h fits high = h
less_the_top-nonzero Z n w h fits high = h
less_the_top-nonzero One n w h fits high =
    let p : 2 ^ w ≤ 2 ^ 128 = pow_mono high in
    rw (← difference_below n (2 ^ w) (2 ^ w - suc n) (omega arith)) (omega arith)

signed_nonzero : (bits : List Bit) → 0 < number_of bits → length bits ≤ 128 → 0 < of_z w128 (signed_number_of bits)
unfolding signed_number_of
signed_nonzero bits h high = less_the_top-nonzero (top_bit bits) (number_of bits) (length bits) h (number_of-lt bits) high

divisor_nonzero : (a b : List Bit) → can_divide a b ≡ true → 0 < number_of b
divisor_nonzero a b h =
    let t = (and_parts (both_known a b) (not (nat_eq (number_of b) 0)) h).1 in
    let f = eqb-false (number_of b) 0 (not-true _ t) in
    omega arith

-- a signed divisor isn't 0
pub signed_divisor : (a b : List Bit) (y : ℤ) → can_divide a b ≡ true → y ≡ signed_number_of b → FitsSigned w128 y → length b ≤ 128 → 0 < of_z w128 (to_z w128 (of_z w128 y))
signed_divisor a b y h e fits high = rw (to_z-of_z w128 y fits, e) (signed_nonzero b (divisor_nonzero a b h) high)

of_z-lt : (z : ℤ) → mag z < 2 ^ 128 → of_z w128 z < 2 ^ 128
of_z-lt (pos n) h = h
of_z-lt (negsuc n) h = omega arith

-- / and % on signed words
module _ (a b : List Bit) (x y : ℤ) (w m : ℕ) (r : List Bit) (divides : can_divide a b ≡ true) (x_fits : FitsSigned w128 x) (y_fits : FitsSigned w128 y) (ex : x ≡ signed_number_of a) (ey : y ≡ signed_number_of b) (width : w ≡ length a) (high : w ≤ 128) (value : r ≡ vector_of w m) where
  pub signed_quotient : (q : ℤ) → q ≡ int_wrapping_div w128 (to_z w128 (of_z w128 x)) (to_z w128 (of_z w128 y)) → m ≡ of_z w128 (to_z w128 (of_z w128 q)) → r ≡ quotient_of true a b
  unfolding quotient_of
  signed_quotient q eq em =
      let small : mag (int_div x y) < 2 ^ 128 = quotient_small x y x_fits.sfits in
      let turn = of_z-to_z w128 (of_z w128 (int_div x y)) (of_z-lt (int_div x y) small) in
      let em' = rw (eq, to_z-of_z w128 x x_fits, to_z-of_z w128 y y_fits, turn, turn) at em in
      rw (divides, value, em', ← width, ← ex, ← ey) (word_of_integer w (int_div x y) high small)

  pub signed_remainder : (q : ℤ) → q ≡ int_rem (to_z w128 (of_z w128 x)) (to_z w128 (of_z w128 y)) → m ≡ of_z w128 (to_z w128 (of_z w128 q)) → r ≡ remainder_of true a b
  unfolding remainder_of
  signed_remainder q eq em =
      let bound : mag (int_rem x y) ≤ mag x = mag_rem x y in
      let start : mag x < 2 ^ 127 = x_fits.sfits in
      let small : mag (int_rem x y) < 2 ^ 128 = omega arith in
      let turn = of_z-to_z w128 (of_z w128 (int_rem x y)) (of_z-lt (int_rem x y) small) in
      let em' = rw (eq, to_z-of_z w128 x x_fits, to_z-of_z w128 y y_fits, turn) at em in
      rw (divides, value, em', ← width, ← ex, ← ey) (word_of_integer w (int_rem x y) high small)

-- / and % on unsigned words, and without an answer
module _ (a b : List Bit) (w : ℕ) (r : List Bit) (width : w ≡ length a) where
  pub unsigned_quotient : (x y : ℕ) → can_divide a b ≡ true → x ≡ number_of a → y ≡ number_of b → r ≡ vector_of w (x / y) → r ≡ quotient_of false a b
  unfolding quotient_of
  unsigned_quotient x y divides ex ey value = rw (divides, ← width, ← ex, ← ey) value

  pub unsigned_remainder : (x y : ℕ) → can_divide a b ≡ true → x ≡ number_of a → y ≡ number_of b → r ≡ vector_of w (x % y) → r ≡ remainder_of false a b
  unfolding remainder_of
  unsigned_remainder x y divides ex ey value = rw (divides, ← width, ← ex, ← ey) value

  pub no_quotient : (signed : Bool) → can_divide a b ≡ false → r ≡ all_x w → r ≡ quotient_of signed a b
  unfolding quotient_of
  no_quotient signed none value = rw (none, ← width) value

  pub no_remainder : (signed : Bool) → can_divide a b ≡ false → r ≡ all_x w → r ≡ remainder_of signed a b
  unfolding remainder_of
  no_remainder signed none value = rw (none, ← width) value
