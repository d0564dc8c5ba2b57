-- The sign of a vector: its top bit, and its number in two's complement.
use Rattle.std.proofs.Common.{◌≡◌, ℕ, zero, suc, ◌+◌, ◌-◌, ◌*◌, ◌/◌, ◌%◌, ◌^◌, ◌<◌, ◌≤◌, refl, ◌∙◌, arith, pos, negsuc, ◌-ℤ◌, to_z, inl, inr, ◌⊎◌, IsTrue, List}
use Rattle.std.specs.Int.{bit_at, w128}
use Rattle.std.proofs.Math.Pow.{pow_mono}
use Rattle.std.proofs.lemmas.Int.{ints}
use Rattle.std.proofs.lemmas.Bool.{le-ltb}
use Rattle.std.proofs.lemmas.Nat.{pow_pos, shr_split, mod_below}
use Rattle.std.proofs.lemmas.Nat.Bits.{bit_at-zero}
use Rattle.four_state.specs.Bits.{all_known}
use Rattle.four_state.specs.Fields.{AreWords}
use Rattle.four_state.specs.declared.bit.Bit.{Bit}
use Rattle.four_state.specs.Numbers.{signed_number_of, less_the_top}
use Rattle.four_state.specs.Words.{bit_of, bits_of}
use Rattle.four_state.specs.WordsBack.{length-bits_of}
use Rattle.four_state.proofs.Extending.{top_bit-bits_of}
use Rattle.four_state.proofs.Numbers.{number_of-bits_of, no_unknown}

quotient_below_two : (q p r n : ℕ) → q * p + r ≡ n → r < p → n < 2 * p → ((q ≡ 0) × (n < p)) ⊎ ((q ≡ 1) × (p ≤ n))
quotient_below_two zero p r n e low high = inl (refl, omega arith)
quotient_below_two (suc zero) p r n e low high = inr (refl, omega arith)
quotient_below_two (suc (suc q)) p r n e low high = absurd (omega arith)

-- the top bit says whether the number is below 2 to the width less one
pub top_cases : (n k : ℕ) → n < 2 ^ suc k → ((bit_at n k ≡ 0) × (n < 2 ^ k)) ⊎ ((bit_at n k ≡ 1) × (2 ^ k ≤ n))
top_cases n k h =
    elim (quotient_below_two (n / 2 ^ k) (2 ^ k) (n % 2 ^ k) n (shr_split n k) (mod_below n (2 ^ k) (pow_pos k)) (omega arith))
    [ inl c ↦ inl (rw c.0, c.1) | inr c ↦ inr (rw c.0, c.1) ]

-- the number in two's complement, from the word with its top bit repeated up to 128 bits
signed_low : (n k : ℕ) → k ≤ 127 → n < 2 ^ k → to_z w128 (n + 0 * (2 ^ 128 - 2 ^ suc k)) ≡ pos n
signed_low n k h below = let p : 2 ^ k ≤ 2 ^ 127 = pow_mono h in omega (arith, ints)

-- a word from 2 ^ 127 on is negative
to_z-high : (m : ℕ) → 2 ^ 127 ≤ m → to_z w128 m ≡ negsuc (2 ^ 128 - suc m)
to_z-high m h = rw (le-ltb m (2 ^ 127) h)

pub difference_below : (n m j : ℕ) → j + suc n ≡ m → negsuc j ≡ pos n -ℤ pos m
difference_below n m j e = omega (arith, ints)

signed_high : (n k : ℕ) → k ≤ 127 → n < 2 ^ suc k → 2 ^ k ≤ n → to_z w128 (n + 1 * (2 ^ 128 - 2 ^ suc k)) ≡ pos n -ℤ pos (2 ^ suc k)
signed_high n k h below above =
    let within : suc k ≤ 128 = omega arith in
    let p : 2 ^ suc k ≤ 2 ^ 128 = pow_mono within in
    let q : 2 ^ k ≤ 2 ^ 127 = pow_mono h in
    to_z-high _ (omega arith) ∙ difference_below n (2 ^ suc k) _ (omega arith)

signed_at : (n k : ℕ) → k ≤ 127 → n < 2 ^ suc k → to_z w128 (n + bit_at n k * (2 ^ 128 - 2 ^ suc k)) ≡ less_the_top (bit_of (bit_at n k) 0) n (suc k)
signed_at n k h below =
    elim (top_cases n k below) [
      | inl c ↦ rw c.0 (signed_low n k h c.1)
      | inr c ↦ rw c.0 (signed_high n k h below c.1)
    ]

pub signed_word : (w n : ℕ) → 1 ≤ w → w ≤ 128 → n < 2 ^ w → to_z w128 (n + bit_at n (w - 1) * (2 ^ 128 - 2 ^ w)) ≡ signed_number_of (bits_of w n 0)
unfolding signed_number_of
signed_word zero n low high below = absurd (omega arith)
signed_word (suc k) n low high below =
    let e : suc k - 1 ≡ k = omega arith in
    rw (top_bit-bits_of (suc k) n 0 low, number_of-bits_of (suc k) n below, length-bits_of, bit_at-zero, e)
    (signed_at n k (omega arith) below)

pub known_signed_number : (w o u : ℕ) (bits : List Bit) → AreWords w o u → bits_of w o u ≡ bits → IsTrue (all_known bits) → to_z w128 (o + bit_at o (w - 1) * (2 ^ 128 - 2 ^ w)) ≡ signed_number_of bits
known_signed_number w o u bits h e known =
    let none = no_unknown w o u bits h e known in
    rw (← e, none) (signed_word w o h.low h.high h.ones_fit)
