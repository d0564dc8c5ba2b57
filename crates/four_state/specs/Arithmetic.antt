-- Arithmetic on vectors of one width (IEEE 1364, "Arithmetic operators"): on whole numbers modulo 2 to the width,
-- and all x where a bit of an operand is x or z.
use Rattle.std.specs.Prelude.{◌+◌, ◌*◌, ◌/◌, ◌%◌, Bool, not, ◌&&◌, ◌==◌, List, length, pos, ◌-ℤ◌, neg_ℤ, int_div, int_rem, if◌then◌else◌}
use Rattle.four_state.specs.Bits.{all_known, both_known, all_x}
use Rattle.four_state.specs.Numbers.{number_of, signed_number_of, vector_of, vector_of_integer}
use Rattle.four_state.specs.declared.bit.Bit.{Bit}

-- the result where all bits of a and b are known, else all x
abbrev pub where_known : List Bit → List Bit → List Bit → List Bit
where_known a b result = if both_known a b then result else all_x (length a)

-- a + b
unfoldable pub sum_of : List Bit → List Bit → List Bit
sum_of a b = where_known a b (vector_of (length a) (number_of a + number_of b))

-- a - b
unfoldable pub difference_of : List Bit → List Bit → List Bit
difference_of a b = where_known a b (vector_of_integer (length a) (pos (number_of a) -ℤ pos (number_of b)))

-- a * b
unfoldable pub product_of : List Bit → List Bit → List Bit
product_of a b = where_known a b (vector_of (length a) (number_of a * number_of b))

-- -a
unfoldable pub negated_of : List Bit → List Bit
negated_of a =
    if all_known a then vector_of_integer (length a) (neg_ℤ (pos (number_of a))) else all_x (length a)

-- all bits are known, and the divisor isn't 0
abbrev pub can_divide : List Bit → List Bit → Bool
can_divide a b = both_known a b && not (number_of b == 0)

-- a / b, cut towards 0; all x for a zero divisor
unfoldable pub quotient_of : Bool → List Bit → List Bit → List Bit
quotient_of signed a b =
    if can_divide a b then
    (if signed then vector_of_integer (length a) (int_div (signed_number_of a) (signed_number_of b))
    else vector_of (length a) (number_of a / number_of b))
    else all_x (length a)

-- a % b, with the sign of a; all x for a zero divisor
unfoldable pub remainder_of : Bool → List Bit → List Bit → List Bit
remainder_of signed a b =
    if can_divide a b then
    (if signed then vector_of_integer (length a) (int_rem (signed_number_of a) (signed_number_of b))
    else vector_of (length a) (number_of a % number_of b))
    else all_x (length a)
