-- The literals that a text begins with, and their values (IEEE 1364, "Integer constants").
use Rattle.std.specs.Prelude.{ℕ, ◌+◌, ◌*◌, ◌^◌, Bool, ◌&&◌, ◌||◌, ◌==◌, nat_lt, nat_le, List, [], ◌∷◌, length, take, drop, slice_index, Option, None, if◌then◌else◌}
use Rattle.std.specs.Char.{digit_value}
use Rattle.std.specs.Char as char
use Rattle.std.specs.Str.Parse.{digits_value}
use Rattle.four_state.specs.Literals.{is_x, is_z, is_only, plain_digits, literal_of}
use Rattle.four_state.specs.declared.bit.Bit.{Bit}
use Rattle.vera_lex.specs.Bytes.{is_digit, in_word, in_decimal, is_base, all, run}

-- a decimal width or none, `'` and a base
abbrev pub opens_based : List ℕ → Bool
opens_based text = (is_digit (slice_index text 0) || slice_index text 0 == 39) && slice_index text (run in_decimal text) == 39 && is_base (slice_index text (run in_decimal text + 1))

-- the base of its letter
abbrev pub base_of : ℕ → ℕ
base_of b = if b == 98 || b == 66 then 2 else (if b == 111 || b == 79 then 8 else (if b == 100 || b == 68 then 10 else 16))

abbrev pub base : List ℕ → ℕ
base text = base_of (slice_index text (run in_decimal text + 1))

-- the letters, digits and `_` behind the base
abbrev pub digits_behind : List ℕ → List ℕ
digits_behind bs = take (run in_word bs) bs

abbrev pub based_digits : List ℕ → List ℕ
based_digits text = digits_behind (drop (run in_decimal text + 2) text)

-- a digit of the base, x or z
abbrev pub is_digit_of : ℕ → ℕ → Bool
is_digit_of base c = is_x c || is_z c || char.is_digit c base

abbrev pub is_x_or_z : ℕ → Bool
is_x_or_z c = is_x c || is_z c

-- digits of the base without `_`: in base 10 decimal digits alone, or one x or z
abbrev pub are_right : ℕ → List ℕ → Bool
are_right base plain = if base == 10 then is_only is_x_or_z plain || all is_digit plain else all (is_digit_of base) plain

-- there is a digit, and none is wrong
unfoldable pub are_digits : ℕ → List ℕ → Bool
are_digits base digits = nat_lt 0 (length (plain_digits digits)) && are_right base (plain_digits digits)

-- how many bits a digit of so many places needs: an x or z all, a number its own
abbrev pub bits_of_digit : ℕ → ℕ → ℕ
bits_of_digit places c =
    if is_x c || is_z c then places
    else (if digit_value c == 0 then 0
    else (if nat_lt (digit_value c) 2 then 1
    else (if nat_lt (digit_value c) 4 then 2
    else (if nat_lt (digit_value c) 8 then 3 else 4))))

-- how many bits digits need: the first that isn't 0 what it needs itself, each after it all of its places
abbrev pub bits_of_digits : ℕ → List ℕ → ℕ
bits_of_digits places [] = 0
bits_of_digits places (c ∷ rest) =
    if bits_of_digit places c == 0 then bits_of_digits places rest else bits_of_digit places c + places * length rest

abbrev pub places : ℕ → ℕ
places base = if base == 2 then 1 else (if base == 8 then 3 else 4)

-- digits without `_` need no more than 32 bits
abbrev pub fits_in_32 : ℕ → List ℕ → Bool
fits_in_32 base plain =
    if base == 10 then is_only is_x_or_z plain || nat_lt (digits_value 10 plain) (2 ^ 32)
    else nat_le (bits_of_digits (places base) plain) 32

-- the bits of a literal without a width; none where it needs more than 32
unfoldable pub without_width : ℕ → List ℕ → Option (List Bit)
without_width base digits = if fits_in_32 base (plain_digits digits) then literal_of 32 base digits else None

-- the number that decimal digits and `_` write
abbrev pub decimal_value : List ℕ → ℕ
decimal_value digits = digits_value 10 (plain_digits digits)

-- the digits and `_` that a text begins with
abbrev pub decimal_digits : List ℕ → List ℕ
decimal_digits text = take (run in_decimal text) text

-- the bits of the based literal that a text begins with; none where its width isn't 1 to 128 or its digits need too many
unfoldable pub based_value : List ℕ → Option (List Bit)
based_value text =
    if slice_index text 0 == 39 then without_width (base text) (based_digits text)
    else literal_of (decimal_value (decimal_digits text)) (base text) (based_digits text)

-- the bits of the literal that a text begins with
unfoldable pub literal_value : List ℕ → Option (List Bit)
literal_value text = if opens_based text then based_value text else without_width 10 (decimal_digits text)
