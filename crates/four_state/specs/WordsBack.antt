-- A vector gives its width and words back.
use Rattle.std.proofs.Common.{◌≡◌, ℕ, zero, suc, ◌/◌, ◌%◌, ◌^◌, ◌<◌, length, refl, ap, arith}
use Rattle.four_state.specs.Words.{bit_of, bits_of, one_part, unknown_part, ones_of, unknown_of}

pub length-bits_of : (w o u : ℕ) → length (bits_of w o u) ≡ w
unfolding bits_of
length-bits_of zero o u = refl
length-bits_of (suc w) o u = ap suc (length-bits_of w (o / 2) (u / 2))

-- the two words of a bit that is made of two digits
one_part-bit_of : (o u : ℕ) → o < 2 → u < 2 → one_part (bit_of o u) ≡ o
one_part-bit_of zero zero _ _ = refl
one_part-bit_of (suc zero) zero _ _ = refl
one_part-bit_of zero (suc zero) _ _ = refl
one_part-bit_of (suc zero) (suc zero) _ _ = refl
one_part-bit_of (suc (suc o)) u h k = omega arith
one_part-bit_of zero (suc (suc u)) h k = omega arith
one_part-bit_of (suc zero) (suc (suc u)) h k = omega arith

unknown_part-bit_of : (o u : ℕ) → o < 2 → u < 2 → unknown_part (bit_of o u) ≡ u
unknown_part-bit_of zero zero _ _ = refl
unknown_part-bit_of (suc zero) zero _ _ = refl
unknown_part-bit_of zero (suc zero) _ _ = refl
unknown_part-bit_of (suc zero) (suc zero) _ _ = refl
unknown_part-bit_of (suc (suc o)) u h k = omega arith
unknown_part-bit_of zero (suc (suc u)) h k = omega arith
unknown_part-bit_of (suc zero) (suc (suc u)) h k = omega arith

half_below : (n w : ℕ) → n < 2 ^ suc w → n / 2 < 2 ^ w
half_below n w h = omega arith

pub ones_of-bits_of : (w o u : ℕ) → o < 2 ^ w → ones_of (bits_of w o u) ≡ o
unfolding bits_of ones_of
ones_of-bits_of zero o u h = omega arith
ones_of-bits_of (suc w) o u h =
    let first = one_part-bit_of (o % 2) (u % 2) (omega arith) (omega arith) in
    let rest = ones_of-bits_of w (o / 2) (u / 2) (half_below o w h) in
    omega (arith, first, rest)

pub unknown_of-bits_of : (w o u : ℕ) → u < 2 ^ w → unknown_of (bits_of w o u) ≡ u
unfolding bits_of unknown_of
unknown_of-bits_of zero o u h = omega arith
unknown_of-bits_of (suc w) o u h =
    let first = unknown_part-bit_of (o % 2) (u % 2) (omega arith) (omega arith) in
    let rest = unknown_of-bits_of w (o / 2) (u / 2) (half_below u w h) in
    omega (arith, first, rest)
