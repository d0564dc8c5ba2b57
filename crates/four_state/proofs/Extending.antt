-- A vector cut or extended, as its words.
use Rattle.std.proofs.Common.{◌≡◌, ℕ, zero, suc, ◌+◌, ◌-◌, ◌*◌, ◌/◌, ◌%◌, ◌^◌, ◌<◌, ◌≤◌, Bool, true, false, ◌∷◌, ◌++◌, length, get_or, take, replicate, refl, ap, sym, arith, add-one, bit_and, append-nil}
use Rattle.std.specs.Int.{bit_at}
use Rattle.std.proofs.lemmas.Nat.{and_mask, pow_pos, field_of}
use Rattle.std.proofs.Math.Pow.{mod-mod-pow, pow_mono}
use Rattle.std.proofs.Math.Nat.{le_refl, lt_of_lt_of_le}
use Rattle.std.proofs.lemmas.List.{take_all}
use Rattle.std.proofs.lemmas.Nat.Bits.{bit_at_lowest, bit_at-suc, bit_at-lt}
use Rattle.four_state.specs.Bits.{all_x, top_bit, extended}
use Rattle.four_state.specs.Words.{bit_of, bits_of}
use Rattle.four_state.specs.WordsBack.{length-bits_of}
use Rattle.four_state.specs.declared.bit.Bit.{Bit}
use Rattle.four_state.specs.declared.bit.Bit.TheVariants.{Zero}

-- the bit at a place
pub get_or-bits_of : (w o u i : ℕ) (d : Bit) → i < w → get_or (bits_of w o u) i d ≡ bit_of (bit_at o i) (bit_at u i)
unfolding bits_of
get_or-bits_of zero o u i d h = absurd (omega arith)
get_or-bits_of (suc w) o u zero d h = rw (bit_at_lowest o, bit_at_lowest u)
get_or-bits_of (suc w) o u (suc i) d h = rw (bit_at-suc o i, bit_at-suc u i) (get_or-bits_of w (o / 2) (u / 2) i d (omega arith))

-- a bit repeated k times
digit_ones_half : (a k : ℕ) → a < 2 → (a * (2 ^ suc k - 1) / 2 ≡ a * (2 ^ k - 1)) × (a * (2 ^ suc k - 1) % 2 ≡ a)
digit_ones_half zero k h = (omega arith, omega arith)
digit_ones_half (suc zero) k h = let p = pow_pos k in (omega arith, omega arith)
digit_ones_half (suc (suc a)) k h = omega arith

pub bits_of-replicate : (k a b : ℕ) → a < 2 → b < 2 → bits_of k (a * (2 ^ k - 1)) (b * (2 ^ k - 1)) ≡ replicate k (bit_of a b)
unfolding bits_of
bits_of-replicate zero a b ha hb = refl
bits_of-replicate (suc k) a b ha hb =
    rw ((digit_ones_half a k ha).1, (digit_ones_half b k hb).1, (digit_ones_half a k ha).0, (digit_ones_half b k hb).0)
    (ap (λ l. bit_of a b ∷ l) (bits_of-replicate k a b ha hb))

-- all bits x
pub bits_of-all_x : (w : ℕ) → bits_of w 0 (2 ^ w - 1) ≡ all_x w
unfolding all_x
bits_of-all_x w =
    let e : 1 * (2 ^ w - 1) ≡ 2 ^ w - 1 = omega arith in
    let z : 0 * (2 ^ w - 1) ≡ 0 = omega arith in
    let r = bits_of-replicate w 0 1 (omega arith) (omega arith) in
    rw (e, z) at r

-- a digit repeated above w bits
pub higher : ℕ → ℕ → ℕ → ℕ
higher a w k = a * (2 ^ (w + k) - 2 ^ w)

higher-zero : (a k : ℕ) → higher a 0 k ≡ a * (2 ^ k - 1)
unfolding higher
higher-zero a k = let e : 0 + k ≡ k = omega arith in rw e

double_power : (w k : ℕ) → 2 ^ (suc w + k) - 2 ^ suc w ≡ 2 * (2 ^ (w + k) - 2 ^ w)
double_power w k = let e : suc w + k ≡ suc (w + k) = omega arith in rw e (omega arith)

higher-suc : (a w k : ℕ) → a < 2 → higher a (suc w) k ≡ 2 * higher a w k
unfolding higher
higher-suc zero w k h = omega arith
higher-suc (suc zero) w k h = omega (arith, double_power w k)
higher-suc (suc (suc a)) w k h = omega arith

even_above : (o e : ℕ) → ((o + 2 * e) % 2 ≡ o % 2) × ((o + 2 * e) / 2 ≡ o / 2 + e)
even_above o e = (omega arith, omega arith)

pub half_below : (n w : ℕ) → n < 2 ^ suc w → n / 2 < 2 ^ w
half_below n w h = omega arith

pub bits_of-above : (w k o u a b : ℕ) → o < 2 ^ w → u < 2 ^ w → a < 2 → b < 2 → bits_of (w + k) (o + higher a w k) (u + higher b w k) ≡ bits_of w o u ++ replicate k (bit_of a b)
unfolding bits_of
bits_of-above zero k o u a b ho hu ha hb =
    let eo : o + higher a 0 k ≡ a * (2 ^ k - 1) = omega (arith, higher-zero a k) in
    let eu : u + higher b 0 k ≡ b * (2 ^ k - 1) = omega (arith, higher-zero b k) in
    let e : 0 + k ≡ k = omega arith in
    rw (eo, eu, e) (bits_of-replicate k a b ha hb)
bits_of-above (suc w) k o u a b ho hu ha hb =
    let e : suc w + k ≡ suc (w + k) = omega arith in
    let same = bits_of-above w k (o / 2) (u / 2) a b (half_below o w ho) (half_below u w hu) ha hb in
    let io = even_above o (higher a w k) in
    let iu = even_above u (higher b w k) in
    rw (e, higher-suc a w k ha, higher-suc b w k hb, io.0, io.1, iu.0, iu.1)
    (ap (λ l. bit_of (o % 2) (u % 2) ∷ l) same)

-- the highest bit
pub top_bit-bits_of : (w o u : ℕ) → 1 ≤ w → top_bit (bits_of w o u) ≡ bit_of (bit_at o (w - 1)) (bit_at u (w - 1))
unfolding top_bit
top_bit-bits_of w o u h = rw length-bits_of (get_or-bits_of w o u (w - 1) Zero (omega arith))

-- the lowest bits
pub take-bits_of : (k w o u : ℕ) → k ≤ w → take k (bits_of w o u) ≡ bits_of k o u
unfolding bits_of
take-bits_of zero w o u h = refl
take-bits_of (suc k) zero o u h = absurd (omega arith)
take-bits_of (suc k) (suc w) o u h = ap (λ l. bit_of (o % 2) (u % 2) ∷ l) (take-bits_of k w (o / 2) (u / 2) (omega arith))

-- bits at or above the width don't count
low_digit : (n w : ℕ) → (n % 2 ^ suc w % 2 ≡ n % 2) × (n % 2 ^ suc w / 2 ≡ n / 2 % 2 ^ w)
low_digit n w = rw (← add-one w) (mod-mod-pow n w 1, field_of n w 1)

pub bits_of-low : (w k o u : ℕ) → w ≤ k → bits_of w (o % 2 ^ k) (u % 2 ^ k) ≡ bits_of w o u
unfolding bits_of
bits_of-low zero k o u h = refl
bits_of-low (suc w) zero o u h = absurd (omega arith)
bits_of-low (suc w) (suc k) o u h =
    rw ((low_digit o k).0, (low_digit o k).1, (low_digit u k).0, (low_digit u k).1)
    (ap (λ l. bit_of (o % 2) (u % 2) ∷ l) (bits_of-low w k (o / 2) (u / 2) (omega arith)))

pub cut : (w o u k : ℕ) (signed : Bool) → k ≤ w → bits_of k (bit_and o (2 ^ k - 1)) (bit_and u (2 ^ k - 1)) ≡ extended k signed (bits_of w o u)
unfolding extended
cut w o u k signed h =
    let none : k - w ≡ 0 = omega arith in
    rw (and_mask o k, and_mask u k, bits_of-low k k o u (le_refl k), length-bits_of w o u, none, take-bits_of k w o u h)
    (sym (append-nil (bits_of k o u)))

-- the bits of a vector, and one bit above them
with_above : (w o u k : ℕ) (b : Bit) → w ≤ k → take k (bits_of w o u) ++ replicate (k - length (bits_of w o u)) b ≡ bits_of w o u ++ replicate (k - w) b
with_above w o u k b h =
    let full : length (bits_of w o u) ≤ k = rw length-bits_of h in
    rw (length-bits_of w o u, take_all k (bits_of w o u) full)

-- without a sign, zeros stand above
pub extended_by_zero : (w o u k : ℕ) → o < 2 ^ w → u < 2 ^ w → w ≤ k → bits_of k o u ≡ extended k false (bits_of w o u)
unfolding extended higher
extended_by_zero w o u k ho hu h =
    let e : w + (k - w) ≡ k = omega arith in
    let zo : o + 0 * (2 ^ k - 2 ^ w) ≡ o = omega arith in
    let zu : u + 0 * (2 ^ k - 2 ^ w) ≡ u = omega arith in
    let above = bits_of-above w (k - w) o u 0 0 ho hu (omega arith) (omega arith) in
    rw (with_above w o u k Zero h) (rw (e, zo, zu) at above)

-- with a sign, the top bit stands above
pub extended_by_top : (w o u k : ℕ) → 1 ≤ w → o < 2 ^ w → u < 2 ^ w → w ≤ k → bits_of k (o + bit_at o (w - 1) * (2 ^ k - 2 ^ w)) (u + bit_at u (w - 1) * (2 ^ k - 2 ^ w)) ≡ extended k true (bits_of w o u)
unfolding extended higher
extended_by_top w o u k low ho hu h =
    let e : w + (k - w) ≡ k = omega arith in
    let above = bits_of-above w (k - w) o u (bit_at o (w - 1)) (bit_at u (w - 1)) ho hu (bit_at-lt o (w - 1)) (bit_at-lt u (w - 1)) in
    rw (with_above w o u k (top_bit (bits_of w o u)) h, top_bit-bits_of w o u low) (rw e at above)

pub below_wider : (n w k : ℕ) → n < 2 ^ w → w ≤ k → n < 2 ^ k
below_wider n w k h le = lt_of_lt_of_le h (pow_mono le)
