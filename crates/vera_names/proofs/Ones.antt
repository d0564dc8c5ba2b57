-- Numbers without a 1 among their bits are 0.
use Rattle.std.proofs.Common.{◌≡◌, ℕ, zero, suc, ◌+◌, ◌*◌, Bool, true, false, List, [], ◌∷◌, refl, sym, ap, ◌∙◌, arith}
use Rattle.std.specs.Prelude.{◌==◌, not, if◌then◌else◌}
use Rattle.std.specs.List.{list_any}
use Rattle.std.proofs.Math.Dec.{eqb-suc-zero}
use Rattle.four_state.specs.Bits.{bit_eq}
use Rattle.four_state.specs.Logic.{logic_of}
use Rattle.four_state.specs.Numbers.{number_of}
use Rattle.four_state.specs.declared.bit.Bit.{Bit}
use Rattle.four_state.specs.declared.bit.Bit.TheVariants as bit
use Rattle.four_state.specs.declared.bit.Bit3.{Bit3}
use Rattle.four_state.specs.declared.bit.Bit3.TheVariants as bit3

twice : (n : ℕ) → ((0 + 2 * n) == 0) ≡ (n == 0)
twice zero = refl
twice (suc n) = let a : 0 + 2 * suc n ≡ suc (1 + 2 * n) = omega arith in ap (λ (m : ℕ). m == 0) a ∙ eqb-suc-zero (1 + 2 * n) ∙ sym (eqb-suc-zero n)

odd : (n : ℕ) → ((1 + 2 * n) == 0) ≡ false
odd n = let a : 1 + 2 * n ≡ suc (2 * n) = omega arith in ap (λ (m : ℕ). m == 0) a ∙ eqb-suc-zero (2 * n)

no_one : (bits : List Bit) → (number_of bits == 0) ≡ not (list_any (bit_eq bit.One) bits)
unfolding number_of
no_one [] = refl
no_one (bit.One ∷ bits) = odd (number_of bits)
no_one (bit.Zero ∷ bits) = twice (number_of bits) ∙ no_one bits
no_one (bit.X ∷ bits) = twice (number_of bits) ∙ no_one bits
no_one (bit.Z ∷ bits) = twice (number_of bits) ∙ no_one bits

abbrev is_one3 : Bit3 → Bool
is_one3 bit3.One = true
is_one3 bit3.Zero = false
is_one3 bit3.X = false

first_test : (a b : Bool) → is_one3 (if a then bit3.One else (if b then bit3.Zero else bit3.X)) ≡ a
first_test true b = refl
first_test false true = refl
first_test false false = refl

logic_is_one : (bits : List Bit) → is_one3 (logic_of bits) ≡ list_any (bit_eq bit.One) bits
unfolding logic_of
logic_is_one bits = first_test (list_any (bit_eq bit.One) bits) _

pub nothing_by_logic : (bits : List Bit) (l : Bit3) → l ≡ logic_of bits → not (is_one3 l) ≡ (number_of bits == 0)
nothing_by_logic bits l e = ap not (ap is_one3 e ∙ logic_is_one bits) ∙ sym (no_one bits)
