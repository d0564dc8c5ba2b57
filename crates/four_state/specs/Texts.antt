-- The texts of vectors.
use Rattle.std.specs.Prelude.{ℕ, Bool, false, List, [], ◌∷◌, map, reverse, if◌then◌else◌, codes, decimal}
use Rattle.std.specs.Fmt.{signed_decimal, digit_glyph}
use Rattle.std.specs.List.{list_all}
use Rattle.four_state.specs.Bits.{all_known, bit_eq}
use Rattle.four_state.specs.Numbers.{number_of, signed_number_of}
use Rattle.four_state.specs.declared.bit.Bit.{Bit}
use Rattle.four_state.specs.declared.bit.Bit.TheVariants.{Zero, One, X, Z}

-- the decimal number, signed in two's complement; `x` where a bit is x or z
unfoldable pub decimal_text : Bool → List Bit → List ℕ
decimal_text signed bits =
    if all_known bits then (if signed then signed_decimal (signed_number_of bits) else decimal (number_of bits))
    else codes "x"

-- the digit of a bit
abbrev pub bit_glyph : Bit → ℕ
bit_glyph Zero = 48
bit_glyph One = 49
bit_glyph X = 120
bit_glyph Z = 122

-- one digit per bit, the highest first
unfoldable pub binary_text : List Bit → List ℕ
binary_text bits = reverse (map bit_glyph bits)

-- the digit of four bits: `z` where all are z, `x` where another one is x or z
unfoldable pub hex_glyph : List Bit → ℕ
hex_glyph group =
    if all_known group then digit_glyph false (number_of group)
    else (if list_all (bit_eq Z) group then 122 else 120)

-- one digit per four bits, the lowest first, the top group filled by 0
unfoldable pub hex_digits : List Bit → List ℕ
hex_digits [] = []
hex_digits (a ∷ []) = hex_glyph (a ∷ Zero ∷ Zero ∷ Zero ∷ []) ∷ []
hex_digits (a ∷ b ∷ []) = hex_glyph (a ∷ b ∷ Zero ∷ Zero ∷ []) ∷ []
hex_digits (a ∷ b ∷ c ∷ []) = hex_glyph (a ∷ b ∷ c ∷ Zero ∷ []) ∷ []
hex_digits (a ∷ b ∷ c ∷ d ∷ higher) = hex_glyph (a ∷ b ∷ c ∷ d ∷ []) ∷ hex_digits higher

-- the digits, the highest first
abbrev pub hex_text : List Bit → List ℕ
hex_text bits = reverse (hex_digits bits)
