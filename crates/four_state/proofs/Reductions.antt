-- Reductions on words.
use Rattle.std.proofs.Common.{◌≡◌, ℕ, zero, suc, ◌+◌, ◌-◌, ◌*◌, ◌/◌, ◌%◌, ◌^◌, ◌<◌, Bool, true, false, not, ◌&&◌, ◌||◌, cond, nat_eq, List, [], ◌∷◌, refl, ap, sym, ◌∙◌, arith, bit_and, bit_or, bit_xor, min, max, Some, length}
use Rattle.std.specs.List.{list_any, list_all}
use Rattle.std.specs.Cmp.Lexicographic.{pointwise}
use Rattle.std.specs.Int.Count.{ones}
use Rattle.std.proofs.lemmas.Bool.{ne_eqb, eq-eqb}
use Rattle.std.proofs.lemmas.Bool.Decides.{nat_tests}
use Rattle.std.proofs.lemmas.Nat.{or_shr, xor_shr, ones_cat, or_lt, xor_lt, and_comm, and-not, pow_pos}
use Rattle.std.proofs.lemmas.Nat.Bits.{bit_at_or, bit_at_xor, bit_at_lowest}
use Rattle.four_state.specs.Bits.{bit_eq}
use Rattle.four_state.specs.Bitwise.{and_bit, or_bit, xor_bit, combined}
use Rattle.four_state.specs.Comparisons.{bits_match, truth_bit}
use Rattle.four_state.specs.Fields.{AreWords}
use Rattle.four_state.specs.Logic.{logic_of, logic_bit}
use Rattle.four_state.specs.Words.{bit_of, bits_of}
use Rattle.four_state.specs.declared.bit.Bit.{Bit}
use Rattle.four_state.specs.declared.bit.Bit.TheVariants.{Zero, One, X, Z}
use Rattle.four_state.specs.declared.bit.Bit3.TheVariants as bit3
use Rattle.four_state.proofs.Bitwise.{by_digits, same_width}
use Rattle.four_state.proofs.Logic.{and_digit, and_half}
use Rattle.four_state.proofs.Extending.{half_below, below_wider}

-- ---- |
or_step : (p q : Bool) (b : Bit) → or_bit (logic_bit (cond p bit3.One (cond q bit3.Zero bit3.X))) b ≡ logic_bit (cond (bit_eq One b || p) bit3.One (cond (bit_eq Zero b && q) bit3.Zero bit3.X))
or_step true true Zero = refl
or_step true true One = refl
or_step true true X = refl
or_step true true Z = refl
or_step true false Zero = refl
or_step true false One = refl
or_step true false X = refl
or_step true false Z = refl
or_step false true Zero = refl
or_step false true One = refl
or_step false true X = refl
or_step false true Z = refl
or_step false false Zero = refl
or_step false false One = refl
or_step false false X = refl
or_step false false Z = refl

pub combined-or : (bits : List Bit) → combined or_bit Zero bits ≡ logic_bit (logic_of bits)
unfolding combined logic_of
combined-or [] = refl
combined-or (b ∷ higher) = rw (combined-or higher) (or_step (list_any (bit_eq One) higher) (list_all (bit_eq Zero) higher) b)

-- ---- &
pub all_and : Bool → Bool → Bit
all_and p q = cond p (cond q One X) Zero

and_step : (p q : Bool) (d e : ℕ) → d < 2 → e < 2 → and_bit (all_and p q) (bit_of d e) ≡ all_and (nat_eq (max d e) 1 && p) (nat_eq e 0 && q)
unfolding all_and
and_step true true zero zero _ _ = refl
and_step true true zero (suc zero) _ _ = refl
and_step true true (suc zero) zero _ _ = refl
and_step true true (suc zero) (suc zero) _ _ = refl
and_step true false zero zero _ _ = refl
and_step true false zero (suc zero) _ _ = refl
and_step true false (suc zero) zero _ _ = refl
and_step true false (suc zero) (suc zero) _ _ = refl
and_step false true zero zero _ _ = refl
and_step false true zero (suc zero) _ _ = refl
and_step false true (suc zero) zero _ _ = refl
and_step false true (suc zero) (suc zero) _ _ = refl
and_step false false zero zero _ _ = refl
and_step false false zero (suc zero) _ _ = refl
and_step false false (suc zero) zero _ _ = refl
and_step false false (suc zero) (suc zero) _ _ = refl
and_step p q (suc (suc d)) e h k = absurd (omega arith)
and_step p q d (suc (suc e)) h k = absurd (omega arith)

or_digit : (a b : ℕ) → bit_or a b % 2 ≡ max (a % 2) (b % 2)
or_digit a b = sym (bit_at_lowest (bit_or a b)) ∙ rw (← bit_at_lowest a, ← bit_at_lowest b) (bit_at_or a b 0)

or_half : (a b : ℕ) → bit_or a b / 2 ≡ bit_or (a / 2) (b / 2)
or_half a b = or_shr a b 1

xor_digit : (a b : ℕ) → bit_xor a b % 2 ≡ (a % 2 + b % 2) % 2
xor_digit a b = sym (bit_at_lowest (bit_xor a b)) ∙ rw (← bit_at_lowest a, ← bit_at_lowest b) (bit_at_xor a b 0)

xor_half : (a b : ℕ) → bit_xor a b / 2 ≡ bit_xor (a / 2) (b / 2)
xor_half a b = xor_shr a b 1

pub full_step : (n d m w : ℕ) → n ≡ d + 2 * m → d < 2 → (nat_eq d 1 && nat_eq m (2 ^ w - 1)) ≡ nat_eq n (2 ^ suc w - 1)
full_step n d m w e h = let p = pow_pos w in grind (arith, nat_tests)

zero_step : (u : ℕ) → (nat_eq (u % 2) 0 && nat_eq (u / 2) 0) ≡ nat_eq u 0
zero_step u = grind (arith, nat_tests)

pub combined-and : (w o u : ℕ) → o < 2 ^ w → u < 2 ^ w → combined and_bit One (bits_of w o u) ≡ all_and (nat_eq (bit_or o u) (2 ^ w - 1)) (nat_eq u 0)
unfolding combined bits_of all_and
combined-and zero o u h k = let e : o ≡ 0 = omega arith in let f : u ≡ 0 = omega arith in rw (e, f)
combined-and (suc w) o u h k =
    rw (combined-and w (o / 2) (u / 2) (half_below o w h) (half_below u w k))
    (and_step (nat_eq (bit_or (o / 2) (u / 2)) (2 ^ w - 1)) (nat_eq (u / 2) 0) (o % 2) (u % 2) (omega arith) (omega arith)
    ∙ rw (full_step (bit_or o u) (max (o % 2) (u % 2)) (bit_or (o / 2) (u / 2)) w (omega (arith, or_digit o u, or_half o u)) (omega arith), zero_step u))

-- ---- ^
pub odd_bit : Bool → Bool → Bit
odd_bit known odd = cond known (cond odd One Zero) X

xor_step : (q p : Bool) (d e : ℕ) → d < 2 → e < 2 → xor_bit (odd_bit q p) (bit_of d e) ≡ odd_bit (nat_eq e 0 && q) (cond (nat_eq d 1) (not p) p)
unfolding odd_bit
xor_step true true zero zero _ _ = refl
xor_step true true zero (suc zero) _ _ = refl
xor_step true true (suc zero) zero _ _ = refl
xor_step true true (suc zero) (suc zero) _ _ = refl
xor_step true false zero zero _ _ = refl
xor_step true false zero (suc zero) _ _ = refl
xor_step true false (suc zero) zero _ _ = refl
xor_step true false (suc zero) (suc zero) _ _ = refl
xor_step false true zero zero _ _ = refl
xor_step false true zero (suc zero) _ _ = refl
xor_step false true (suc zero) zero _ _ = refl
xor_step false true (suc zero) (suc zero) _ _ = refl
xor_step false false zero zero _ _ = refl
xor_step false false zero (suc zero) _ _ = refl
xor_step false false (suc zero) zero _ _ = refl
xor_step false false (suc zero) (suc zero) _ _ = refl
xor_step q p (suc (suc d)) e h k = absurd (omega arith)
xor_step q p d (suc (suc e)) h k = absurd (omega arith)

odd_more : (n d m : ℕ) → m ≡ n + d → d < 2 → cond (nat_eq d 1) (not (nat_eq (n % 2) 1)) (nat_eq (n % 2) 1) ≡ nat_eq (m % 2) 1
odd_more n zero m e h = let f : m ≡ n = omega arith in rw f
odd_more n (suc zero) m e h = turn n m e
  where
    turn : (n m : ℕ) → m ≡ n + 1 → not (nat_eq (n % 2) 1) ≡ nat_eq (m % 2) 1
    turn n m e = grind (arith, nat_tests)
odd_more n (suc (suc d)) m e h = absurd (omega arith)

ones_digit : (d : ℕ) → d < 2 → ones d ≡ d
unfolding ones
ones_digit zero h = refl
ones_digit (suc zero) h = refl
ones_digit (suc (suc d)) h = absurd (omega arith)

ones_more : (n : ℕ) → ones n ≡ ones (n / 2) + n % 2
ones_more n =
    let whole : n / 2 * 2 ^ 1 + n % 2 ≡ n = omega arith in
    sym (ap ones whole) ∙ ones_cat 1 (n / 2) (n % 2) (omega arith) ∙ ap (λ k. ones (n / 2) + k) (ones_digit (n % 2) (omega arith))

pub combined-xor : (w o u : ℕ) → o < 2 ^ w → u < 2 ^ w → combined xor_bit Zero (bits_of w o u) ≡ odd_bit (nat_eq u 0) (nat_eq (ones o % 2) 1)
unfolding combined bits_of odd_bit
combined-xor zero o u h k =
    let e : o ≡ 0 = omega arith in
    let f : u ≡ 0 = omega arith in
    rw (e, f, ones_digit 0 (omega arith))
combined-xor (suc w) o u h k =
    rw (combined-xor w (o / 2) (u / 2) (half_below o w h) (half_below u w k))
    (xor_step (nat_eq (u / 2) 0) (nat_eq (ones (o / 2) % 2) 1) (o % 2) (u % 2) (omega arith) (omega arith)
    ∙ rw (odd_more (ones (o / 2)) (o % 2) (ones o) (ones_more o) (omega arith), zero_step u))

-- ---- =?=
match_digits : (d e d' e' : ℕ) → d < 2 → e < 2 → d' < 2 → e' < 2 → bits_match (bit_of d e) (bit_of d' e') ≡ nat_eq (min (max e e') ((d + d') % 2)) ((d + d') % 2)
match_digits = by_digits (λ d e d' e'. bits_match (bit_of d e) (bit_of d' e') ≡ nat_eq (min (max e e') ((d + d') % 2)) ((d + d') % 2)) refl refl refl refl refl refl refl refl refl refl refl refl refl refl refl refl

join_equal : (a x b d a' x' : ℕ) → a ≡ b + 2 * a' → x ≡ d + 2 * x' → b < 2 → d < 2 → (nat_eq b d && nat_eq a' x') ≡ nat_eq a x
join_equal a x b d a' x' ea ex hb hd = grind (arith, nat_tests)

pub matching : (w o u o' u' : ℕ) → o < 2 ^ w → u < 2 ^ w → o' < 2 ^ w → u' < 2 ^ w → pointwise bits_match (bits_of w o u) (bits_of w o' u') ≡ nat_eq (bit_and (bit_or u u') (bit_xor o o')) (bit_xor o o')
unfolding bits_of
matching zero o u o' u' h k h' k' =
    let e : o ≡ 0 = omega arith in let f : u ≡ 0 = omega arith in
    let e' : o' ≡ 0 = omega arith in let f' : u' ≡ 0 = omega arith in
    rw (e, f, e', f')
matching (suc w) o u o' u' h k h' k' =
    rw (match_digits (o % 2) (u % 2) (o' % 2) (u' % 2) (omega arith) (omega arith) (omega arith) (omega arith), matching w (o / 2) (u / 2) (o' / 2) (u' / 2) (half_below o w h) (half_below u w k) (half_below o' w h') (half_below u' w k'))
    (join_equal (bit_and (bit_or u u') (bit_xor o o')) (bit_xor o o') (min (max (u % 2) (u' % 2)) ((o % 2 + o' % 2) % 2)) ((o % 2 + o' % 2) % 2) (bit_and (bit_or (u / 2) (u' / 2)) (bit_xor (o / 2) (o' / 2))) (bit_xor (o / 2) (o' / 2))
    (let dig = rw (or_digit u u', xor_digit o o') at (and_digit (bit_or u u') (bit_xor o o')) in
    let hal = rw (or_half u u', xor_half o o') at (and_half (bit_or u u') (bit_xor o o')) in
    omega arith)
    (omega (arith, xor_digit o o', xor_half o o')) (omega arith) (omega arith))

none_left : (n r m : ℕ) → n + r ≡ m → nat_eq n 0 ≡ nat_eq r m
none_left n r m e = grind (arith, nat_tests)

-- the test on words: the bits that differ have an unknown one
module _ (w o u w' o' u' : ℕ) (a b : List Bit) (words : AreWords w o u) (words' : AreWords w' o' u') (is : bits_of w o u ≡ a) (is' : bits_of w' o' u' ≡ b) (widths : length a ≡ length b) where
  pub matches_words : nat_eq (bit_and (bit_xor o o') (2 ^ 128 - 1 - bit_or u u')) 0 ≡ pointwise bits_match a b
  matches_words =
      let same = same_width w o u w' o' u' a b words words' is is' widths in
      let o'_fits : o' < 2 ^ w = rw same at words'.ones_fit in
      let u'_fits : u' < 2 ^ w = rw same at words'.unknown_fit in
      let difference = xor_lt w o o' words.ones_fit o'_fits in
      let either = or_lt w u u' words.unknown_fit u'_fits in
      let whole = and-not 128 (bit_or u u') (bit_xor o o') (below_wider _ w 128 either words.high) (below_wider _ w 128 difference words.high) in
      rw (← is, ← is', same, matching w o u o' u' words.ones_fit words.unknown_fit o'_fits u'_fits)
      (none_left _ _ _ (rw (and_comm (2 ^ 128 - 1 - bit_or u u') (bit_xor o o')) at whole))

-- what a vector's words say of its reductions
module _ (w o u : ℕ) (a : List Bit) (words : AreWords w o u) (is : bits_of w o u ≡ a) where
  and_is : (m : ℕ) → m ≡ 2 ^ w - 1 → combined and_bit One a ≡ all_and (nat_eq (bit_or o u) m) (nat_eq u 0)
  and_is m e = rw (← is, e) (combined-and w o u words.ones_fit words.unknown_fit)

  pub and_zero : (m : ℕ) → m ≡ 2 ^ w - 1 → (bit_or o u ≡ m → ⊥) → Zero ≡ combined and_bit One a
  unfolding all_and
  and_zero m e some = sym (rw (ne_eqb _ _ some) at (and_is m e))

  pub and_one : (m : ℕ) → m ≡ 2 ^ w - 1 → bit_or o u ≡ m → u ≡ 0 → One ≡ combined and_bit One a
  unfolding all_and
  and_one m e all known = sym (rw (eq-eqb _ _ all, eq-eqb _ _ known) at (and_is m e))

  pub and_x : (m : ℕ) → m ≡ 2 ^ w - 1 → bit_or o u ≡ m → (u ≡ 0 → ⊥) → X ≡ combined and_bit One a
  unfolding all_and
  and_x m e all unknown = sym (rw (eq-eqb _ _ all, ne_eqb _ _ unknown) at (and_is m e))

  xor_is : combined xor_bit Zero a ≡ odd_bit (nat_eq u 0) (nat_eq (ones o % 2) 1)
  xor_is = rw (← is) (combined-xor w o u words.ones_fit words.unknown_fit)

  truth_of_odd : (b : Bool) → truth_bit (Some b) ≡ odd_bit true b
  unfolding odd_bit
  truth_of_odd true = refl
  truth_of_odd false = refl

  pub xor_known : u ≡ 0 → truth_bit (Some (nat_eq (ones o % 2) 1)) ≡ combined xor_bit Zero a
  xor_known known = truth_of_odd (nat_eq (ones o % 2) 1) ∙ sym (rw (eq-eqb u 0 known) at xor_is)

  pub xor_unknown : (u ≡ 0 → ⊥) → X ≡ combined xor_bit Zero a
  unfolding odd_bit
  xor_unknown unknown = sym (rw (ne_eqb u 0 unknown) at xor_is)
