-- Numbers and vectors, as words.
use Rattle.std.proofs.Common.{◌≡◌, ℕ, zero, suc, ◌-◌, ◌/◌, ◌%◌, ◌^◌, ◌<◌, ◌≤◌, List, ◌∷◌, length, refl, ap, sym, ◌∙◌, arith, bit_and, nat_eq, ◌&&◌, IsTrue}
use Rattle.std.proofs.lemmas.Nat.{and_mask}
use Rattle.std.proofs.lemmas.Bool.{eqb-true}
use Rattle.std.proofs.lemmas.Bool.Decides.{nat_tests}
use Rattle.four_state.specs.Fields.{AreWords}
use Rattle.four_state.specs.Bits.{is_known, all_known}
use Rattle.std.proofs.Math.Nat.{le_refl}
use Rattle.four_state.specs.Numbers.{digit_of, number_of, bit_of_digit, vector_of}
use Rattle.four_state.specs.Words.{bit_of, bits_of}
use Rattle.four_state.specs.declared.bit.Bit.{Bit}
use Rattle.four_state.proofs.Extending.{bits_of-low, half_below}

bit_of-zero : (d : ℕ) → bit_of d 0 ≡ bit_of_digit d
bit_of-zero zero = refl
bit_of-zero (suc d) = refl

-- the vector of a number has no unknown bits
pub bits_of-zero : (w n : ℕ) → bits_of w n 0 ≡ vector_of w n
unfolding bits_of vector_of
bits_of-zero zero n = refl
bits_of-zero (suc w) n = rw bit_of-zero (ap (λ l. bit_of_digit (n % 2) ∷ l) (bits_of-zero w (n / 2)))

pub vector_of-low : (w k n : ℕ) → w ≤ k → vector_of w (n % 2 ^ k) ≡ vector_of w n
vector_of-low w k n h =
    let zero_left : 0 % 2 ^ k ≡ 0 = omega arith in
    let low = bits_of-low w k n 0 h in
    sym (bits_of-zero w (n % 2 ^ k)) ∙ rw zero_left at low ∙ bits_of-zero w n

pub masked : (w n m : ℕ) → m ≡ 2 ^ w - 1 → bits_of w (bit_and n m) 0 ≡ vector_of w n
masked w n m e = rw (e, and_mask n w) (bits_of-zero w (n % 2 ^ w) ∙ vector_of-low w w n (le_refl w))

-- all bits are known where no unknown bit is set
digit_known : (a d : ℕ) → d < 2 → is_known (bit_of a d) ≡ nat_eq d 0
digit_known zero zero h = refl
digit_known (suc a) zero h = refl
digit_known zero (suc zero) h = refl
digit_known (suc a) (suc zero) h = refl
digit_known a (suc (suc d)) h = absurd (omega arith)

split_zero : (u : ℕ) → (nat_eq (u % 2) 0 && nat_eq (u / 2) 0) ≡ nat_eq u 0
split_zero u = grind (arith, nat_tests)

pub all_known-bits_of : (w o u : ℕ) → u < 2 ^ w → all_known (bits_of w o u) ≡ nat_eq u 0
unfolding all_known bits_of
all_known-bits_of zero o u h = let e : u ≡ 0 = omega arith in rw e
all_known-bits_of (suc w) o u h =
    let first = digit_known (o % 2) (u % 2) (omega arith) in
    let rest = all_known-bits_of w (o / 2) (u / 2) (half_below u w h) in
    rw (first, rest) (split_zero u)

digit_of-bit_of : (d : ℕ) → d < 2 → digit_of (bit_of d 0) ≡ d
digit_of-bit_of zero h = refl
digit_of-bit_of (suc zero) h = refl
digit_of-bit_of (suc (suc d)) h = absurd (omega arith)

pub number_of-bits_of : (w o : ℕ) → o < 2 ^ w → number_of (bits_of w o 0) ≡ o
unfolding number_of bits_of
number_of-bits_of zero o h = omega arith
number_of-bits_of (suc w) o h =
    let first = digit_of-bit_of (o % 2) (omega arith) in
    let rest = number_of-bits_of w (o / 2) (half_below o w h) in
    rw (first, rest) (omega arith)

-- what a vector whose bits are known says of its words
pub no_unknown : (w o u : ℕ) (bits : List Bit) → AreWords w o u → bits_of w o u ≡ bits → IsTrue (all_known bits) → u ≡ 0
no_unknown w o u bits h e known = eqb-true u 0 (sym (all_known-bits_of w o u h.unknown_fit) ∙ rw (← e) at known)

pub known_number : (w o u : ℕ) (bits : List Bit) → AreWords w o u → bits_of w o u ≡ bits → IsTrue (all_known bits) → o ≡ number_of bits
known_number w o u bits h e known =
    let none = no_unknown w o u bits h e known in
    rw (← e, none) (sym (number_of-bits_of w o h.ones_fit))

pub length-vector_of : (w n : ℕ) → length (vector_of w n) ≡ w
unfolding vector_of
length-vector_of zero n = refl
length-vector_of (suc w) n = ap suc (length-vector_of w (n / 2))
