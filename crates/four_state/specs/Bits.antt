-- Vectors as lists of bits, the lowest first (IEEE 1364, "Value set").
use Rattle.std.specs.Prelude.{ℕ, ◌-◌, Bool, true, false, ◌&&◌, List, ◌++◌, length, take, replicate, slice_index_or, if◌then◌else◌}
use Rattle.std.specs.List.{list_all}
use Rattle.std.specs.Cmp.Lexicographic.{pointwise}
use Rattle.four_state.specs.declared.bit.Bit.{Bit}
use Rattle.four_state.specs.declared.bit.Bit.TheVariants.{Zero, One, X, Z}

-- the bit is 0 or 1
abbrev pub is_known : Bit → Bool
is_known Zero = true
is_known One = true
is_known X = false
is_known Z = false

-- no bit is x or z
unfoldable pub all_known : List Bit → Bool
all_known bits = list_all is_known bits

-- no bit of either is x or z
abbrev pub both_known : List Bit → List Bit → Bool
both_known a b = all_known a && all_known b

-- the vector of this width whose bits are all x
unfoldable pub all_x : ℕ → List Bit
all_x width = replicate width X

-- the highest bit
unfoldable pub top_bit : List Bit → Bit
top_bit bits = slice_index_or bits (length bits - 1) Zero

-- cut or extended to a width: by its top bit where it is signed, else by 0
unfoldable pub extended : ℕ → Bool → List Bit → List Bit
extended width signed bits =
    take width bits ++ replicate (width - length bits) (if signed then top_bit bits else Zero)

-- two bits are the same of the four values
abbrev pub bit_eq : Bit → Bit → Bool
bit_eq Zero Zero = true
bit_eq One One = true
bit_eq X X = true
bit_eq Z Z = true
bit_eq Zero One = false
bit_eq Zero X = false
bit_eq Zero Z = false
bit_eq One Zero = false
bit_eq One X = false
bit_eq One Z = false
bit_eq X Zero = false
bit_eq X One = false
bit_eq X Z = false
bit_eq Z Zero = false
bit_eq Z One = false
bit_eq Z X = false

-- two vectors have the same bits
unfoldable pub bits_eq : List Bit → List Bit → Bool
bits_eq a b = pointwise bit_eq a b
