-- Operators bit by bit, and reductions (IEEE 1364, "Bitwise operators" and "Reduction operators"); z is read as x.
use Rattle.std.specs.Prelude.{◌&&◌, ◌||◌, List, [], ◌∷◌, map, if◌then◌else◌}
use Rattle.four_state.specs.Bits.{is_known, bit_eq}
use Rattle.four_state.specs.declared.bit.Bit.{Bit}
use Rattle.four_state.specs.declared.bit.Bit.TheVariants.{Zero, One, X, Z}

-- 0 & any is 0, 1 & 1 is 1, else x
abbrev pub and_bit : Bit → Bit → Bit
and_bit a b =
    if bit_eq a Zero || bit_eq b Zero then Zero else (if bit_eq a One && bit_eq b One then One else X)

-- 1 | any is 1, 0 | 0 is 0, else x
abbrev pub or_bit : Bit → Bit → Bit
or_bit a b =
    if bit_eq a One || bit_eq b One then One else (if bit_eq a Zero && bit_eq b Zero then Zero else X)

-- whether the two differ, where both are known, else x
abbrev pub xor_bit : Bit → Bit → Bit
xor_bit a b = if is_known a && is_known b then (if bit_eq a b then Zero else One) else X

abbrev pub not_bit : Bit → Bit
not_bit Zero = One
not_bit One = Zero
not_bit X = X
not_bit Z = X

-- the operator on each pair of bits of two vectors of one width
unfoldable pub each_pair : (Bit → Bit → Bit) → List Bit → List Bit → List Bit
each_pair op [] bits = []
each_pair op (a ∷ rest) [] = []
each_pair op (a ∷ rest) (b ∷ bits) = op a b ∷ each_pair op rest bits

abbrev pub and_of : List Bit → List Bit → List Bit
and_of a b = each_pair and_bit a b

abbrev pub or_of : List Bit → List Bit → List Bit
or_of a b = each_pair or_bit a b

abbrev pub xor_of : List Bit → List Bit → List Bit
xor_of a b = each_pair xor_bit a b

abbrev pub xnor_of : List Bit → List Bit → List Bit
xnor_of a b = each_pair (λ x y. not_bit (xor_bit x y)) a b

unfoldable pub not_of : List Bit → List Bit
not_of bits = map not_bit bits

-- the bits combined from the left, the highest first
unfoldable pub combined : (Bit → Bit → Bit) → Bit → List Bit → Bit
combined op neutral [] = neutral
combined op neutral (b ∷ higher) = op (combined op neutral higher) b

abbrev pub red_and_of : List Bit → List Bit
red_and_of bits = combined and_bit One bits ∷ []

abbrev pub red_or_of : List Bit → List Bit
red_or_of bits = combined or_bit Zero bits ∷ []

abbrev pub red_xor_of : List Bit → List Bit
red_xor_of bits = combined xor_bit Zero bits ∷ []

abbrev pub red_nand_of : List Bit → List Bit
red_nand_of bits = not_bit (combined and_bit One bits) ∷ []

abbrev pub red_nor_of : List Bit → List Bit
red_nor_of bits = not_bit (combined or_bit Zero bits) ∷ []

abbrev pub red_xnor_of : List Bit → List Bit
red_xnor_of bits = not_bit (combined xor_bit Zero bits) ∷ []
