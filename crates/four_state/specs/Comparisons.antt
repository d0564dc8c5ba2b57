-- Comparisons of vectors of one width (IEEE 1364, "Relational operators" and "Equality operators"): one bit each.
use Rattle.std.specs.Prelude.{Bool, true, false, not, ◌&&◌, ◌||◌, List, [], ◌∷◌, Option, Some, None, if◌then◌else◌}
use Rattle.std.specs.declared.cmp.Ordering.{Ordering}
use Rattle.std.specs.Ordering.{nat_cmp, int_cmp, is_lt, is_le, is_gt, is_ge, is_eq, is_ne}
use Rattle.std.specs.Option.{option_map}
use Rattle.std.specs.Cmp.Lexicographic.{pointwise}
use Rattle.four_state.specs.Bits.{is_known, bit_eq, bits_eq}
use Rattle.four_state.specs.Numbers.{numbers_of, signed_numbers_of}
use Rattle.four_state.specs.declared.bit.Bit.{Bit}
use Rattle.four_state.specs.declared.bit.Bit.TheVariants.{Zero, One, X}

-- how the numbers of a and b stand to each other; none where a bit of either is x or z
abbrev pub order_of : Bool → List Bit → List Bit → Option Ordering
order_of signed a b =
    if signed then option_map (λ p. int_cmp p.0 p.1) (signed_numbers_of a b)
    else option_map (λ p. nat_cmp p.0 p.1) (numbers_of a b)

-- the bit of a test: x where nothing is known
abbrev pub truth_bit : Option Bool → Bit
truth_bit None = X
truth_bit (Some true) = One
truth_bit (Some false) = Zero

-- one bit
abbrev pub truth_of : Option Bool → List Bit
truth_of holds = truth_bit holds ∷ []

abbrev pub less_of : Bool → List Bit → List Bit → List Bit
less_of signed a b = truth_of (option_map is_lt (order_of signed a b))

abbrev pub less_equal_of : Bool → List Bit → List Bit → List Bit
less_equal_of signed a b = truth_of (option_map is_le (order_of signed a b))

abbrev pub greater_of : Bool → List Bit → List Bit → List Bit
greater_of signed a b = truth_of (option_map is_gt (order_of signed a b))

abbrev pub greater_equal_of : Bool → List Bit → List Bit → List Bit
greater_equal_of signed a b = truth_of (option_map is_ge (order_of signed a b))

abbrev pub equal_of : Bool → List Bit → List Bit → List Bit
equal_of signed a b = truth_of (option_map is_eq (order_of signed a b))

abbrev pub not_equal_of : Bool → List Bit → List Bit → List Bit
not_equal_of signed a b = truth_of (option_map is_ne (order_of signed a b))

-- all four values compared: the vectors are the same
abbrev pub case_equal_of : List Bit → List Bit → List Bit
case_equal_of a b = truth_of (Some (bits_eq a b))

abbrev pub case_not_equal_of : List Bit → List Bit → List Bit
case_not_equal_of a b = truth_of (Some (not (bits_eq a b)))

-- x and z match any bit
abbrev pub bits_match : Bit → Bit → Bool
bits_match a b = not (is_known a && is_known b) || bit_eq a b

-- each pair of bits matches
abbrev pub wild_equal_of : List Bit → List Bit → List Bit
wild_equal_of a b = truth_of (Some (pointwise bits_match a b))

abbrev pub wild_not_equal_of : List Bit → List Bit → List Bit
wild_not_equal_of a b = truth_of (Some (not (pointwise bits_match a b)))
