-- Bits moved, joined and taken out, on words.
use Rattle.std.proofs.Common.{◌≡◌, ℕ, zero, suc, ◌+◌, ◌-◌, ◌*◌, ◌/◌, ◌%◌, ◌^◌, ◌<◌, ◌≤◌, Bool, true, false, cond, List, [], ◌∷◌, ◌++◌, length, get_or, take, drop, replicate, map, refl, ap, sym, ◌∙◌, arith, bit_and, bit_or, min, append-nil, inl, inr}
use Rattle.std.specs.Int.{bit_at}
use Rattle.std.specs.List.{range_with_len}
use Rattle.std.proofs.Math.ListN.{drop_of_length-le}
use Rattle.std.proofs.Math.Nat.{le_refl, add_comm}
use Rattle.std.proofs.Math.Seq.{drop-cons}
use Rattle.std.proofs.lemmas.Bool.{cases_lt}
use Rattle.std.proofs.lemmas.List.{length-drop, take_all, get_or-drop, get_or_past}
use Rattle.std.proofs.lemmas.Nat.{and_mask, pow_pos, or_shifted, shl_whole, shr_below, shr-shr, mul-add-lt, pow-add}
use Rattle.std.proofs.Math.Pow.{pow_mono}
use Rattle.std.proofs.lemmas.Nat.Bits.{bit_at_or, bit_at-lt, bit_at_ones, bit_at_ones_above, bit_at_above}
use Rattle.four_state.specs.Bits.{all_known, all_x, top_bit, extended}
use Rattle.four_state.specs.Fields.{AreWords}
use Rattle.four_state.specs.Numbers.{number_of, vector_of}
use Rattle.four_state.specs.Parts.{joined, selected}
use Rattle.four_state.specs.Shifts.{shifted_left, shifted_right}
use Rattle.four_state.specs.Words.{bit_of, bits_of}
use Rattle.four_state.specs.WordsBack.{length-bits_of}
use Rattle.four_state.specs.declared.bit.Bit.{Bit}
use Rattle.four_state.specs.declared.bit.Bit.TheVariants.{Zero, X}
use Rattle.four_state.proofs.Bitwise.{bit_at_flip}
use Rattle.four_state.proofs.Extending.{get_or-bits_of, bits_of-low, take-bits_of, half_below}

-- ---- on lists of words
power_suc : (k : ℕ) → 2 ^ suc k ≡ 2 * 2 ^ k
power_suc k = omega arith

pub width_is : (w o u : ℕ) (bits : List Bit) → bits_of w o u ≡ bits → w ≡ length bits
width_is w o u bits is = sym (length-bits_of w o u) ∙ ap (λ l. length l) is

doubled : (n k : ℕ) → (n * 2 ^ suc k % 2 ≡ 0) × (n * 2 ^ suc k / 2 ≡ n * 2 ^ k)
doubled n k =
    let e : n * 2 ^ suc k ≡ 2 * (n * 2 ^ k) = rw (power_suc k) (omega arith) in
    rw e (omega arith, omega arith)

-- bits above k zeros
pub bits_of-above_zeros : (k j o u : ℕ) → bits_of (k + j) (o * 2 ^ k) (u * 2 ^ k) ≡ replicate k Zero ++ bits_of j o u
unfolding bits_of
bits_of-above_zeros zero j o u =
    let e : 0 + j ≡ j = omega arith in
    let f : o * 2 ^ 0 ≡ o = omega arith in
    let g : u * 2 ^ 0 ≡ u = omega arith in
    rw (e, f, g)
bits_of-above_zeros (suc k) j o u =
    let e : suc k + j ≡ suc (k + j) = omega arith in
    let same = bits_of-above_zeros k j o u in
    rw (e, (doubled o k).0, (doubled o k).1, (doubled u k).0, (doubled u k).1) (ap (λ l. Zero ∷ l) same)

below_part : (h l n : ℕ) → ((h * 2 ^ suc n + l) % 2 ≡ l % 2) × ((h * 2 ^ suc n + l) / 2 ≡ h * 2 ^ n + l / 2)
below_part h l n =
    let e : h * 2 ^ suc n + l ≡ l + 2 * (h * 2 ^ n) = rw (power_suc n) (omega arith) in
    rw e (omega arith, omega arith)

-- bits above other bits
pub bits_of-joined : (n k ho hu lo lu : ℕ) → lo < 2 ^ n → lu < 2 ^ n → bits_of (k + n) (ho * 2 ^ n + lo) (hu * 2 ^ n + lu) ≡ bits_of n lo lu ++ bits_of k ho hu
unfolding bits_of
bits_of-joined zero k ho hu lo lu h h' =
    let e : k + 0 ≡ k = omega arith in
    let f : ho * 2 ^ 0 + lo ≡ ho = omega arith in
    let g : hu * 2 ^ 0 + lu ≡ hu = omega arith in
    rw (e, f, g)
bits_of-joined (suc n) k ho hu lo lu h h' =
    let e : k + suc n ≡ suc (k + n) = omega arith in
    let same = bits_of-joined n k ho hu (lo / 2) (lu / 2) (half_below lo n h) (half_below lu n h') in
    rw (e, (below_part ho lo n).0, (below_part ho lo n).1, (below_part hu lu n).0, (below_part hu lu n).1)
    (ap (λ l. bit_of (lo % 2) (lu % 2) ∷ l) same)

-- the upper bits
pub drop-bits_of : (k w o u : ℕ) → drop k (bits_of w o u) ≡ bits_of (w - k) (o / 2 ^ k) (u / 2 ^ k)
unfolding bits_of
drop-bits_of zero w o u =
    let e : w - 0 ≡ w = omega arith in
    let f : o / 2 ^ 0 ≡ o = omega arith in
    let g : u / 2 ^ 0 ≡ u = omega arith in
    rw (e, f, g)
drop-bits_of (suc k) zero o u = let e : 0 - suc k ≡ 0 = omega arith in rw e
drop-bits_of (suc k) (suc w) o u =
    let e : suc w - suc k ≡ w - k = omega arith in
    rw (e, drop-bits_of k w (o / 2) (u / 2), half_power o k, half_power u k)
  where
    half_power : (n k : ℕ) → n / 2 / 2 ^ k ≡ n / 2 ^ suc k
    half_power n k = let e : 1 + k ≡ suc k = omega arith in shr-shr n 1 k ∙ ap (λ j. n / 2 ^ j) e

-- ---- <<
pub shifted_words : (w o u k : ℕ) → k < w → w ≤ 128 → bits_of w (bit_and (o * 2 ^ k % 2 ^ 128) (2 ^ w - 1)) (bit_and (u * 2 ^ k % 2 ^ 128) (2 ^ w - 1)) ≡ replicate (min k w) Zero ++ take (w - k) (bits_of w o u)
shifted_words w o u k h high =
    let e : k + (w - k) ≡ w = omega arith in
    let f : min k w ≡ k = omega arith in
    let moved = bits_of-above_zeros k (w - k) o u in
    rw (and_mask (o * 2 ^ k % 2 ^ 128) w, and_mask (u * 2 ^ k % 2 ^ 128) w, bits_of-low w w (o * 2 ^ k % 2 ^ 128) (u * 2 ^ k % 2 ^ 128) (le_refl w), bits_of-low w 128 (o * 2 ^ k) (u * 2 ^ k) high, f, take-bits_of (w - k) w o u (omega arith))
    (rw e at moved)

vector_of-zeros : (w : ℕ) → vector_of w 0 ≡ replicate w Zero
unfolding vector_of
vector_of-zeros zero = refl
vector_of-zeros (suc w) = ap (λ l. Zero ∷ l) (vector_of-zeros w)

pub shl_unknown : (bits by : List Bit) (w : ℕ) (r : List Bit) → all_known by ≡ false → w ≡ length bits → r ≡ all_x w → r ≡ shifted_left bits by
unfolding shifted_left
shl_unknown bits by w r h width value = rw (h, ← width) value

pub shl_past : (bits by : List Bit) (w n : ℕ) (r : List Bit) → all_known by ≡ true → n ≡ number_of by → w ≡ length bits → w ≤ n → r ≡ vector_of w 0 → r ≡ shifted_left bits by
unfolding shifted_left
shl_past bits by w n r known number width h value =
    let e : min n w ≡ w = omega arith in
    let f : w - n ≡ 0 = omega arith in
    rw (known, ← number, ← width, e, f, value) (vector_of-zeros w ∙ sym (append-nil (replicate w Zero)))

pub shl_within : (w o u n : ℕ) (bits by : List Bit) → AreWords w o u → bits_of w o u ≡ bits → all_known by ≡ true → n ≡ number_of by → n < w → (m m' : ℕ) → m ≡ 2 ^ w - 1 → m' ≡ 2 ^ w - 1 → bits_of w (bit_and (o * 2 ^ n % 2 ^ 128) m) (bit_and (u * 2 ^ n % 2 ^ 128) m') ≡ shifted_left bits by
unfolding shifted_left
shl_within w o u n bits by words is known number h m m' em em' =
    rw (em, em', ← is, known, ← number, length-bits_of w o u) (shifted_words w o u n h words.high)

-- ---- >>
-- the upper bits extended again to the width
top-drop : (bits : List Bit) (k : ℕ) → k < length bits → top_bit (drop k bits) ≡ top_bit bits
unfolding top_bit
top-drop bits k h =
    let e : k + (length bits - k - 1) ≡ length bits - 1 = omega arith in
    rw (length-drop k bits, get_or-drop k bits (length bits - k - 1) Zero, e)

upper_extended : (signed : Bool) (bits : List Bit) (k w : ℕ) → k < length bits → w ≡ length bits → extended w signed (drop k bits) ≡ drop k bits ++ replicate (min k (length bits)) (cond signed (top_bit bits) Zero)
unfolding extended
upper_extended signed bits k w h width =
    let e : length bits - (length bits - k) ≡ min k (length bits) = omega arith in
    let within : length (drop k bits) ≤ length bits = rw length-drop (omega arith) in
    rw (width, take_all (length bits) (drop k bits) within, length-drop k bits, e, top-drop bits k h)

pub shr_unknown : (signed : Bool) (bits by : List Bit) (w : ℕ) (r : List Bit) → all_known by ≡ false → w ≡ length bits → r ≡ all_x w → r ≡ shifted_right signed bits by
unfolding shifted_right
shr_unknown signed bits by w r h width value = rw (h, ← width) value

pub shr_within : (signed : Bool) (bits by : List Bit) (w n : ℕ) (part r : List Bit) → all_known by ≡ true → n ≡ number_of by → w ≡ length bits → n < w → part ≡ drop n bits → r ≡ extended w signed part → r ≡ shifted_right signed bits by
unfolding shifted_right
shr_within signed bits by w n part r known number width h upper value =
    rw (known, ← number, value, upper) (upper_extended signed bits n w (rw width at h) width)

-- nothing but the top bit, or zeros
top_alone : (bits : List Bit) (w : ℕ) → w ≡ length bits → 1 ≤ w → drop (w - 1) bits ≡ top_bit bits ∷ []
unfolding top_bit
top_alone bits w width low =
    let last : w - 1 < length bits = omega arith in
    let none : length bits ≤ suc (w - 1) = omega arith in
    let e : w - 1 ≡ length bits - 1 = omega arith in
    drop-cons bits (w - 1) Zero last ∙ rw (drop_of_length-le bits none, e)

replicate-suc : (n : ℕ) (b : Bit) → 1 ≤ n → b ∷ replicate (n - 1) b ≡ replicate n b
replicate-suc zero b h = absurd (omega arith)
replicate-suc (suc n) b h = let e : suc n - 1 ≡ n = omega arith in rw e

pub shr_past_signed : (bits by : List Bit) (w n : ℕ) (part r : List Bit) → all_known by ≡ true → n ≡ number_of by → w ≡ length bits → 1 ≤ w → w ≤ n → part ≡ drop (w - 1) bits → r ≡ extended w true part → r ≡ shifted_right true bits by
unfolding shifted_right
shr_past_signed bits by w n part r known number width low h upper value =
    let last : w - 1 < length bits = omega arith in
    let past : length bits ≤ n = omega arith in
    let e : min n (length bits) ≡ length bits = omega arith in
    let f : min (w - 1) (length bits) ≡ length bits - 1 = omega arith in
    let positive : 1 ≤ length bits = omega arith in
    rw (known, ← number, value, upper, upper_extended true bits (w - 1) w last width, drop_of_length-le bits past, top_alone bits w width low, e, f)
    (replicate-suc (length bits) (top_bit bits) positive)

pub shr_past_unsigned : (bits by : List Bit) (w n : ℕ) (r : List Bit) → all_known by ≡ true → n ≡ number_of by → w ≡ length bits → w ≤ n → r ≡ vector_of w 0 → r ≡ shifted_right false bits by
unfolding shifted_right
shr_past_unsigned bits by w n r known number width h value =
    let past : length bits ≤ n = omega arith in
    let e : min n (length bits) ≡ w = omega arith in
    rw (known, ← number, value, drop_of_length-le bits past, e) (vector_of-zeros w)

-- the upper bits, as words
module _ (w o u : ℕ) (bits : List Bit) (words : AreWords w o u) (is : bits_of w o u ≡ bits) (k : ℕ) (h : k < length bits) where
  pub upper_within : k < w
  upper_within = let e = width_is w o u bits is in omega arith

  pub upper_words : AreWords (w - k) (o / 2 ^ k) (u / 2 ^ k)
  upper_words =
      let within : k < w = upper_within in
      let e : w - k + k ≡ w = omega arith in
      record {
        low = omega arith;
        high = omega (arith, words.high);
        ones_fit = shr_below o (w - k) k (rw e words.ones_fit);
        unknown_fit = shr_below u (w - k) k (rw e words.unknown_fit);
      }

  pub upper_bits : bits_of (w - k) (o / 2 ^ k) (u / 2 ^ k) ≡ drop k bits
  upper_bits = rw (← is) (sym (drop-bits_of k w o u))

-- ---- joined and taken out
-- two vectors joined, as words
module _ (h ho hu n lo lu : ℕ) (high low : List Bit) (words : AreWords h ho hu) (words' : AreWords n lo lu) (is : bits_of h ho hu ≡ high) (is' : bits_of n lo lu ≡ low) where
  pub joined_width : length high + length low ≡ h + n
  joined_width = let e = width_is h ho hu high is in let f = width_is n lo lu low is' in omega arith

  module _ (fits : h ≤ 128 - n) where
    within : h + n ≤ 128
    within = omega (arith, words'.high)

    word : (a b : ℕ) → a < 2 ^ h → b < 2 ^ n → bit_or (a * 2 ^ n % 2 ^ 128) b ≡ a * 2 ^ n + b
    word a b fa fb = rw (shl_whole a h n 128 fa within) (or_shifted a n b fb)

    word_fits : (a b : ℕ) → a < 2 ^ h → b < 2 ^ n → a * 2 ^ n + b < 2 ^ (h + n)
    word_fits a b fa fb =
        let e : 2 ^ (h + n) ≡ 2 ^ n * 2 ^ h = rw (add_comm h n) (pow-add 2 n h) in
        rw e (mul-add-lt a (2 ^ n) b (2 ^ h) fa fb)

    pub joined_words : AreWords (h + n) (bit_or (ho * 2 ^ n % 2 ^ 128) lo) (bit_or (hu * 2 ^ n % 2 ^ 128) lu)
    joined_words = record {
      low = omega (arith, words.low);
      high = within;
      ones_fit = rw (word ho lo words.ones_fit words'.ones_fit) (word_fits ho lo words.ones_fit words'.ones_fit);
      unknown_fit = rw (word hu lu words.unknown_fit words'.unknown_fit) (word_fits hu lu words.unknown_fit words'.unknown_fit);
    }

    pub joined_bits : bits_of (h + n) (bit_or (ho * 2 ^ n % 2 ^ 128) lo) (bit_or (hu * 2 ^ n % 2 ^ 128) lu) ≡ joined high low
    joined_bits =
        rw (word ho lo words.ones_fit words'.ones_fit, word hu lu words.unknown_fit words'.unknown_fit, ← is, ← is')
        (bits_of-joined n h ho hu lo lu words'.ones_fit words'.unknown_fit)

-- one bit, x past the width
bit_past : (w o u i : ℕ) → o < 2 ^ w → u < 2 ^ w → w ≤ 128 → i < 128 → bit_of (bit_at o i) (bit_at (bit_or u (2 ^ 128 - 1 - (2 ^ w - 1))) i) ≡ get_or (bits_of w o u) i X
bit_past w o u i fo fu high h =
    let p = pow_pos w in
    let q : 2 ^ w ≤ 2 ^ 128 = pow_mono high in
    let turned = bit_at_flip (2 ^ w - 1) i (omega arith) h in
    elim (cases_lt i w) [
      | inl within ↦ rw (get_or-bits_of w o u i X within, bit_at_or, turned, bit_at_ones w i within) (ap (bit_of (bit_at o i)) (let d = bit_at-lt u i in omega arith))
      | inr past ↦ rw (get_or_past (bits_of w o u) i X (rw length-bits_of past), bit_at_or, turned, bit_at_ones_above w i past, bit_at_above o w i fo past, bit_at_above u w i fu past)
    ]

select_bits : (k low w o u N : ℕ) (bits : List Bit) → bits_of w o u ≡ bits → ((i : ℕ) → i < 128 → bit_of (bit_at o i) (bit_at N i) ≡ get_or bits i X) → low + k ≤ 128 → bits_of k (o / 2 ^ low) (N / 2 ^ low) ≡ map (λ i. get_or bits i X) (range_with_len low k)
unfolding bits_of
select_bits zero low w o u N bits is each h = refl
select_bits (suc k) low w o u N bits is each h =
    let e : low + 1 ≡ suc low = omega arith in
    let first = each low (omega arith) in
    let rest = select_bits k (low + 1) w o u N bits is each (omega arith) in
    rw (first, shr-shr o low 1, shr-shr N low 1) (ap (λ l. get_or bits low X ∷ l) rest)

pub select_words : (w o u : ℕ) (bits : List Bit) → AreWords w o u → bits_of w o u ≡ bits → (high low m m' outside : ℕ) → low ≤ high → high < 128 → m ≡ 2 ^ (high - low + 1) - 1 → m' ≡ 2 ^ (high - low + 1) - 1 → outside ≡ 2 ^ w - 1 → bits_of (high - low + 1) (bit_and (o / 2 ^ low) m) (bit_and (bit_or u (2 ^ 128 - 1 - outside) / 2 ^ low) m') ≡ selected high low bits
unfolding selected
select_words w o u bits words is high low m m' outside order within em em' eo =
    let e : high + 1 - low ≡ high - low + 1 = omega arith in
    let k = high - low + 1 in
    rw (em, em', eo, and_mask (o / 2 ^ low) k, and_mask (bit_or u (2 ^ 128 - 1 - (2 ^ w - 1)) / 2 ^ low) k, bits_of-low k k (o / 2 ^ low) (bit_or u (2 ^ 128 - 1 - (2 ^ w - 1)) / 2 ^ low) (le_refl k), e)
    (select_bits k low w o u (bit_or u (2 ^ 128 - 1 - (2 ^ w - 1))) bits is (λ i h. rw (← is) (bit_past w o u i words.ones_fit words.unknown_fit words.high h)) (omega arith))
