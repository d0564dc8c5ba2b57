-- Logical values on words.
use Rattle.std.proofs.Common.{◌≡◌, ℕ, zero, suc, ◌+◌, ◌-◌, ◌*◌, ◌/◌, ◌%◌, ◌^◌, ◌<◌, true, false, not, ◌&&◌, ◌||◌, nat_eq, List, refl, sym, ◌∙◌, arith, bit_and, min}
use Rattle.std.specs.List.{list_any, list_all}
use Rattle.std.proofs.lemmas.Bool.{ne_eqb, eq-eqb, and_right}
use Rattle.std.proofs.lemmas.Bool.Decides.{nat_tests}
use Rattle.std.proofs.lemmas.Nat.{and_shr, and_comm, and-not, and_le_l}
use Rattle.std.proofs.lemmas.Nat.Bits.{bit_at_and, bit_at_lowest}
use Rattle.four_state.specs.Bits.{bit_eq}
use Rattle.four_state.specs.Fields.{AreWords}
use Rattle.four_state.specs.Logic.{logic_of}
use Rattle.four_state.specs.Words.{bit_of, bits_of}
use Rattle.four_state.specs.declared.bit.Bit.{Bit}
use Rattle.four_state.specs.declared.bit.Bit.TheVariants as bit
use Rattle.four_state.specs.declared.bit.Bit3.TheVariants as bit3
use Rattle.four_state.proofs.Extending.{half_below, below_wider}

-- & of two words, digit by digit
pub and_digit : (a b : ℕ) → bit_and a b % 2 ≡ min (a % 2) (b % 2)
and_digit a b = sym (bit_at_lowest (bit_and a b)) ∙ rw (← bit_at_lowest a, ← bit_at_lowest b) (bit_at_and a b 0)

pub and_half : (a b : ℕ) → bit_and a b / 2 ≡ bit_and (a / 2) (b / 2)
and_half a b = and_shr a b 1

digit_one : (d e : ℕ) → d < 2 → e < 2 → bit_eq bit.One (bit_of d e) ≡ not (nat_eq (min e d) d)
digit_one zero zero h k = refl
digit_one (suc zero) zero h k = refl
digit_one zero (suc zero) h k = refl
digit_one (suc zero) (suc zero) h k = refl
digit_one (suc (suc d)) e h k = absurd (omega arith)
digit_one d (suc (suc e)) h k = absurd (omega arith)

digit_zero : (d e : ℕ) → d < 2 → e < 2 → bit_eq bit.Zero (bit_of d e) ≡ (nat_eq d 0 && nat_eq e 0)
digit_zero zero zero h k = refl
digit_zero (suc zero) zero h k = refl
digit_zero zero (suc zero) h k = refl
digit_zero (suc zero) (suc zero) h k = refl
digit_zero (suc (suc d)) e h k = absurd (omega arith)
digit_zero d (suc (suc e)) h k = absurd (omega arith)

join_tests : (a o b d a' o' : ℕ) → a ≡ b + 2 * a' → o ≡ d + 2 * o' → b < 2 → d < 2 → (not (nat_eq b d) || not (nat_eq a' o')) ≡ not (nat_eq a o)
join_tests a o b d a' o' ea eo hb hd = grind (arith, nat_tests)

-- some bit is 1 exactly where `ones` has a bit that `unknown` has not
any_one : (w o u : ℕ) → o < 2 ^ w → list_any (bit_eq bit.One) (bits_of w o u) ≡ not (nat_eq (bit_and u o) o)
unfolding bits_of
any_one zero o u h = let e : o ≡ 0 = omega arith in rw (e, and_comm u 0)
any_one (suc w) o u h =
    rw (digit_one (o % 2) (u % 2) (omega arith) (omega arith), any_one w (o / 2) (u / 2) (half_below o w h))
    (join_tests (bit_and u o) o (min (u % 2) (o % 2)) (o % 2) (bit_and (u / 2) (o / 2)) (o / 2) (omega (arith, and_digit u o, and_half u o)) (omega arith) (omega arith) (omega arith))

pub all_zero : (w o u : ℕ) → o < 2 ^ w → u < 2 ^ w → list_all (bit_eq bit.Zero) (bits_of w o u) ≡ (nat_eq o 0 && nat_eq u 0)
unfolding bits_of
all_zero zero o u h k = let e : o ≡ 0 = omega arith in let f : u ≡ 0 = omega arith in rw (e, f)
all_zero (suc w) o u h k =
    rw (digit_zero (o % 2) (u % 2) (omega arith) (omega arith), all_zero w (o / 2) (u / 2) (half_below o w h) (half_below u w k))
    (grind (arith, nat_tests))

-- the bits of `ones` that `unknown` has not, as the code has them
module _ (w o u : ℕ) (bits : List Bit) (words : AreWords w o u) (view_is : bits_of w o u ≡ bits) where
  known_ones : bit_and o (2 ^ 128 - 1 - u) + bit_and u o ≡ o
  known_ones =
      let whole = and-not 128 u o (below_wider u w 128 words.unknown_fit words.high) (below_wider o w 128 words.ones_fit words.high) in
      rw (and_comm (2 ^ 128 - 1 - u) o) at whole

  pub logic_one : (bit_and o (2 ^ 128 - 1 - u) ≡ 0 → ⊥) → bit3.One ≡ logic_of bits
  unfolding logic_of
  logic_one some =
      let whole = known_ones in
      let e : nat_eq (bit_and u o) o ≡ false = ne_eqb _ _ (λ same. some (omega arith)) in
      rw (← view_is, any_one w o u words.ones_fit, e)

  pub logic_zero : bit_and o (2 ^ 128 - 1 - u) ≡ 0 → u ≡ 0 → bit3.Zero ≡ logic_of bits
  unfolding logic_of
  logic_zero none known =
      let whole = known_ones in
      let e : nat_eq (bit_and u o) o ≡ true = eq-eqb _ _ (omega arith) in
      let z : o ≡ 0 = omega (arith, and_le_l u o) in
      rw (← view_is, any_one w o u words.ones_fit, e, all_zero w o u words.ones_fit words.unknown_fit, z, known)

  pub logic_x : bit_and o (2 ^ 128 - 1 - u) ≡ 0 → (u ≡ 0 → ⊥) → bit3.X ≡ logic_of bits
  unfolding logic_of
  logic_x none unknown =
      let whole = known_ones in
      let e : nat_eq (bit_and u o) o ≡ true = eq-eqb _ _ (omega arith) in
      let f : (nat_eq o 0 && nat_eq u 0) ≡ false = and_right _ _ (ne_eqb u 0 unknown) in
      rw (← view_is, any_one w o u words.ones_fit, e, all_zero w o u words.ones_fit words.unknown_fit, f)
