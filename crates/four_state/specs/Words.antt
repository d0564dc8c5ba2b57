-- Two words for a vector: bit i of `ones` and of `unknown` say which of the four values bit i has.
use Rattle.std.specs.Prelude.{ℕ, zero, suc, ◌+◌, ◌*◌, ◌/◌, ◌%◌, List, [], ◌∷◌}
use Rattle.four_state.specs.declared.bit.Bit.{Bit}
use Rattle.four_state.specs.declared.bit.Bit.TheVariants.{Zero, One, X, Z}

-- 0 or 1 where it is known, x or z where it isn't
abbrev pub bit_of : ℕ → ℕ → Bit
bit_of zero zero = Zero
bit_of (suc _) zero = One
bit_of zero (suc _) = X
bit_of (suc _) (suc _) = Z

-- the bits of two words, the lowest first
unfoldable pub bits_of : ℕ → ℕ → ℕ → List Bit
bits_of zero ones unknown = []
bits_of (suc width) ones unknown = bit_of (ones % 2) (unknown % 2) ∷ bits_of width (ones / 2) (unknown / 2)

abbrev pub one_part : Bit → ℕ
one_part Zero = 0
one_part One = 1
one_part X = 0
one_part Z = 1

abbrev pub unknown_part : Bit → ℕ
unknown_part Zero = 0
unknown_part One = 0
unknown_part X = 1
unknown_part Z = 1

-- the words of a list of bits
unfoldable pub ones_of : List Bit → ℕ
ones_of [] = 0
ones_of (b ∷ bits) = one_part b + 2 * ones_of bits

unfoldable pub unknown_of : List Bit → ℕ
unknown_of [] = 0
unknown_of (b ∷ bits) = unknown_part b + 2 * unknown_of bits
