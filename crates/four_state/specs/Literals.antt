-- Based literals, behind their base (OpenVera manual, "Numbers"; IEEE 1364, "Integer constants").
use Rattle.std.specs.Prelude.{ℕ, ◌^◌, Bool, false, not, ◌&&◌, ◌||◌, ◌==◌, nat_lt, nat_le, List, [], ◌∷◌, ◌++◌, drop, replicate, filter, Option, Some, None, option_and_then, option_map, if◌then◌else◌}
use Rattle.std.specs.Char.{digit_value, is_digit}
use Rattle.std.specs.List.{list_all}
use Rattle.std.specs.Str.Parse.{digits_value}
use Rattle.four_state.specs.Bits.{is_known, all_x, top_bit, extended, bit_eq}
use Rattle.four_state.specs.Numbers.{vector_of}
use Rattle.four_state.specs.declared.bit.Bit.{Bit}
use Rattle.four_state.specs.declared.bit.Bit.TheVariants.{Zero, X, Z}

-- the bases of `b`, `o`, `d` and `h`
abbrev pub is_base : ℕ → Bool
is_base base = base == 2 || base == 8 || base == 10 || base == 16

-- `x` and `z`, in either case
abbrev pub is_x : ℕ → Bool
is_x c = c == 120 || c == 88

abbrev pub is_z : ℕ → Bool
is_z c = c == 122 || c == 90

-- the digits without `_`
abbrev pub plain_digits : List ℕ → List ℕ
plain_digits digits = filter (λ c. not (c == 95)) digits

-- the bits of one digit in the base of 2 to the places; none where it isn't one
unfoldable pub digit_bits : ℕ → ℕ → Option (List Bit)
digit_bits places c =
    if is_x c then Some (replicate places X)
    else (if is_z c then Some (replicate places Z)
    else (if is_digit c (2 ^ places) then Some (vector_of places (digit_value c)) else None))

-- the bits of the digits: those of the first one above those of the others
unfoldable pub digits_bits : ℕ → List ℕ → Option (List Bit)
digits_bits places [] = Some []
digits_bits places (c ∷ rest) =
    option_and_then (λ high. option_map (λ low. low ++ high) (digits_bits places rest)) (digit_bits places c)

-- the bits need no more than 128: none is 1, x or z at place 128 or above
unfoldable pub fits_in_128 : List Bit → Bool
fits_in_128 bits = list_all (bit_eq Zero) (drop 128 bits)

-- cut to the width, or extended: by x or z where the first digit is so, else by 0
unfoldable pub fitted : ℕ → List Bit → List Bit
fitted width bits = extended width (not (is_known (top_bit bits))) bits

-- digits in a base of 2 to the places, at a width
unfoldable pub literal_by_places : ℕ → ℕ → List ℕ → Option (List Bit)
literal_by_places places width digits =
    option_and_then (λ bits. if fits_in_128 bits then Some (fitted width bits) else None) (digits_bits places digits)

-- a single digit that passes the test
abbrev pub is_only : (ℕ → Bool) → List ℕ → Bool
is_only test [] = false
is_only test (c ∷ []) = test c
is_only test (c ∷ d ∷ rest) = false

-- the number of decimal digits; none where one isn't decimal, or the number isn't below 2 ^ 128
unfoldable pub decimal_number : List ℕ → Option ℕ
decimal_number digits =
    if list_all (λ c. is_digit c 10) digits && nat_lt (digits_value 10 digits) (2 ^ 128) then Some (digits_value 10 digits)
    else None

-- decimal digits, or one x or z, at a width
unfoldable pub decimal_literal : ℕ → List ℕ → Option (List Bit)
decimal_literal width digits =
    if is_only is_x digits then Some (all_x width)
    else (if is_only is_z digits then Some (replicate width Z) else option_map (vector_of width) (decimal_number digits))

-- the vector of a literal of this width; none where the width isn't 1 to 128, a digit is outside the base or the digits
-- need more than 128 bits
unfoldable pub literal_of : ℕ → ℕ → List ℕ → Option (List Bit)
literal_of width base digits =
    if nat_le 1 width && nat_le width 128 then
    (if base == 10 then decimal_literal width (plain_digits digits)
    else literal_by_places (if base == 2 then 1 else (if base == 8 then 3 else 4)) width (plain_digits digits))
    else None
