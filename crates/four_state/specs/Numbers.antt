-- The numbers of vectors.
use Rattle.std.specs.Prelude.{ℕ, zero, suc, ◌+◌, ◌*◌, ◌/◌, ◌%◌, ◌^◌, List, [], ◌∷◌, length, ℤ, pos, ◌-ℤ◌, unsigned_abs, Option, Some, None, if◌then◌else◌}
use Rattle.std.specs.Int.{int_rem_euclid}
use Rattle.four_state.specs.Bits.{top_bit, both_known}
use Rattle.four_state.specs.declared.bit.Bit.{Bit}
use Rattle.four_state.specs.declared.bit.Bit.TheVariants.{Zero, One, X, Z}

-- the digit of a bit that is 0 or 1
abbrev pub digit_of : Bit → ℕ
digit_of Zero = 0
digit_of One = 1
digit_of X = 0
digit_of Z = 0

-- the number of a vector whose bits are all known, lowest bit first
unfoldable pub number_of : List Bit → ℕ
number_of [] = 0
number_of (b ∷ bits) = digit_of b + 2 * number_of bits

-- n less 2 to the width where the top bit is set
abbrev pub less_the_top : Bit → ℕ → ℕ → ℤ
less_the_top Zero n width = pos n
less_the_top One n width = pos n -ℤ pos (2 ^ width)
less_the_top X n width = pos n
less_the_top Z n width = pos n

-- its number in two's complement
unfoldable pub signed_number_of : List Bit → ℤ
signed_number_of bits = less_the_top (top_bit bits) (number_of bits) (length bits)

-- the bit of a digit 0 or 1
abbrev pub bit_of_digit : ℕ → Bit
bit_of_digit zero = Zero
bit_of_digit (suc _) = One

-- the vector of a number modulo 2 to the width, the lowest bit first
unfoldable pub vector_of : ℕ → ℕ → List Bit
vector_of zero n = []
vector_of (suc width) n = bit_of_digit (n % 2) ∷ vector_of width (n / 2)

-- the vector of an integer modulo 2 to the width
unfoldable pub vector_of_integer : ℕ → ℤ → List Bit
vector_of_integer width z = vector_of width (unsigned_abs (int_rem_euclid z (pos (2 ^ width))))

-- the numbers of two vectors; none where a bit of either is x or z
unfoldable pub numbers_of : List Bit → List Bit → Option (ℕ × ℕ)
numbers_of a b = if both_known a b then Some (number_of a, number_of b) else None

-- their numbers in two's complement
unfoldable pub signed_numbers_of : List Bit → List Bit → Option (ℤ × ℤ)
signed_numbers_of a b = if both_known a b then Some (signed_number_of a, signed_number_of b) else None
