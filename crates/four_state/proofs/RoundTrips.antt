-- Vectors from their words and numbers, and back.
use Rattle.std.proofs.Common.{◌≡◌, ℕ, ◌+◌, ◌*◌, ◌/◌, ◌%◌, ◌^◌, ◌<◌, true, IsTrue, List, [], ◌∷◌, length, refl, ap, sym, ◌∙◌, arith, pos, ◌+ℤ◌, ◌-ℤ◌}
use Rattle.std.proofs.Math.Nat.{le_refl}
use Rattle.std.proofs.lemmas.Bool.{and_parts}
use Rattle.std.proofs.lemmas.Int.{ints}
use Rattle.std.proofs.lemmas.Nat.{pow_pos, mod_below}
use Rattle.four_state.specs.Bits.{is_known, all_known, top_bit}
use Rattle.four_state.specs.Numbers.{digit_of, bit_of_digit, less_the_top, number_of, signed_number_of, vector_of, vector_of_integer}
use Rattle.four_state.specs.Words.{bit_of, bits_of, one_part, unknown_part, ones_of, unknown_of}
use Rattle.four_state.specs.declared.bit.Bit.{Bit}
use Rattle.four_state.specs.declared.bit.Bit.TheVariants.{Zero, One, X, Z}
use Rattle.four_state.proofs.Arithmetic.{vector_of_integer-is}
use Rattle.four_state.proofs.Numbers.{bits_of-zero, number_of-bits_of, vector_of-low}

low_digit_of : (d n : ℕ) → d < 2 → ((d + 2 * n) % 2 ≡ d) × ((d + 2 * n) / 2 ≡ n)
low_digit_of d n h = (omega arith, omega arith)

part_below : (b : Bit) → (one_part b < 2) × (unknown_part b < 2) × (digit_of b < 2)
part_below Zero = (omega arith, omega arith, omega arith)
part_below One = (omega arith, omega arith, omega arith)
part_below X = (omega arith, omega arith, omega arith)
part_below Z = (omega arith, omega arith, omega arith)

bit_of-parts : (b : Bit) → bit_of (one_part b) (unknown_part b) ≡ b
bit_of-parts Zero = refl
bit_of-parts One = refl
bit_of-parts X = refl
bit_of-parts Z = refl

pub from_words : (bits : List Bit) → bits_of (length bits) (ones_of bits) (unknown_of bits) ≡ bits
unfolding bits_of ones_of unknown_of
from_words [] = refl
from_words (b ∷ bits) =
    let o = low_digit_of (one_part b) (ones_of bits) (part_below b).0 in
    let u = low_digit_of (unknown_part b) (unknown_of bits) (part_below b).1 in
    rw (o.0, o.1, u.0, u.1, bit_of-parts b, from_words bits)

pub number_of-vector_of : (w n : ℕ) → number_of (vector_of w n) ≡ n % 2 ^ w
number_of-vector_of w n =
    ap number_of (sym (vector_of-low w w n (le_refl w)) ∙ sym (bits_of-zero w (n % 2 ^ w))) ∙ number_of-bits_of w (n % 2 ^ w) (mod_below n (2 ^ w) (pow_pos w))

known_bit : (b : Bit) → is_known b ≡ true → bit_of_digit (digit_of b) ≡ b
known_bit Zero h = refl
known_bit One h = refl
known_bit X h = cc
known_bit Z h = cc

pub from_number : (bits : List Bit) → IsTrue (all_known bits) → vector_of (length bits) (number_of bits) ≡ bits
unfolding vector_of number_of all_known
from_number [] h = refl
from_number (b ∷ bits) h =
    let known = and_parts (is_known b) (all_known bits) h in
    let d = low_digit_of (digit_of b) (number_of bits) (part_below b).2 in
    rw (d.0, d.1, known_bit b known.0, from_number bits known.1)

less_the_top-back : (b : Bit) (n w : ℕ) → vector_of_integer w (less_the_top b n w) ≡ vector_of w n
less_the_top-back Zero n w = vector_of_integer-is w n 0 (pos n) (omega (arith, ints))
less_the_top-back X n w = vector_of_integer-is w n 0 (pos n) (omega (arith, ints))
less_the_top-back Z n w = vector_of_integer-is w n 0 (pos n) (omega (arith, ints))
less_the_top-back One n w = vector_of_integer-is w n 1 (pos n -ℤ pos (2 ^ w)) (back n (2 ^ w))
  where
    back : (n p : ℕ) → (pos n -ℤ pos p) +ℤ pos (1 * p) ≡ pos n
    back n p = omega (arith, ints)

pub from_signed_number : (bits : List Bit) → IsTrue (all_known bits) → vector_of_integer (length bits) (signed_number_of bits) ≡ bits
unfolding signed_number_of
from_signed_number bits h = less_the_top-back (top_bit bits) (number_of bits) (length bits) ∙ from_number bits h
