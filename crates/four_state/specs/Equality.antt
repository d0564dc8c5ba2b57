-- Equality of bits, of vectors and of texts is equality of the values.
use Rattle.std.proofs.Common.{◌≡◌, List, refl, Decides}
use Rattle.std.specs.Cmp.{IsEquivalence, IsPartialEquivalence, decided, partial_equiv_from_equiv}
use Rattle.std.specs.Cmp.Lexicographic.{pointwise_decides}
use Rattle.four_state.specs.Bits.{bit_eq, bits_eq}
use Rattle.four_state.specs.declared.bit.Bit.{Bit}
use Rattle.four_state.specs.declared.bit.Bit.TheVariants.{Zero, One, X, Z}

pub bit_eq_decides : (x y : Bit) → Decides (bit_eq x y) (x ≡ y)
bit_eq_decides Zero Zero = (λ _. refl, λ _. refl)
bit_eq_decides Zero One = (λ h. cc, λ h. cc)
bit_eq_decides Zero X = (λ h. cc, λ h. cc)
bit_eq_decides Zero Z = (λ h. cc, λ h. cc)
bit_eq_decides One Zero = (λ h. cc, λ h. cc)
bit_eq_decides One One = (λ _. refl, λ _. refl)
bit_eq_decides One X = (λ h. cc, λ h. cc)
bit_eq_decides One Z = (λ h. cc, λ h. cc)
bit_eq_decides X Zero = (λ h. cc, λ h. cc)
bit_eq_decides X One = (λ h. cc, λ h. cc)
bit_eq_decides X X = (λ _. refl, λ _. refl)
bit_eq_decides X Z = (λ h. cc, λ h. cc)
bit_eq_decides Z Zero = (λ h. cc, λ h. cc)
bit_eq_decides Z One = (λ h. cc, λ h. cc)
bit_eq_decides Z X = (λ h. cc, λ h. cc)
bit_eq_decides Z Z = (λ _. refl, λ _. refl)

pub bits_eq_decides : (a b : List Bit) → Decides (bits_eq a b) (a ≡ b)
unfolding bits_eq
bits_eq_decides = pointwise_decides bit_eq_decides

pub bits_eq_equivalence : IsEquivalence bits_eq
bits_eq_equivalence = decided bits_eq bits_eq_decides

pub bits_eq_partial : IsPartialEquivalence bits_eq
bits_eq_partial = partial_equiv_from_equiv bits_eq_equivalence
