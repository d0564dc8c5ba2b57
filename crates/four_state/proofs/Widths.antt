-- The width of each result.
use Rattle.std.proofs.Common.{◌≡◌, ℕ, suc, ◌+◌, ◌-◌, min, Bool, true, false, cond, List, [], ◌∷◌, ◌++◌, length, ℤ, take, drop, replicate, refl, ap, arith}
use Rattle.std.proofs.lemmas.List.{length-append, length-take, length-drop, length-map, length-replicate}
use Rattle.std.proofs.lemmas.List.FromFn.{length-map-range_with_len}
use Rattle.four_state.specs.Arithmetic.{sum_of, difference_of, product_of, negated_of, can_divide, quotient_of, remainder_of}
use Rattle.four_state.specs.Bits.{all_known, both_known, all_x, top_bit, extended}
use Rattle.four_state.specs.Bitwise.{each_pair, not_bit, not_of}
use Rattle.four_state.specs.Numbers.{number_of, vector_of_integer}
use Rattle.four_state.specs.Parts.{selected}
use Rattle.four_state.specs.Shifts.{shifted_left, shifted_right}
use Rattle.four_state.specs.declared.bit.Bit.{Bit}
use Rattle.four_state.specs.declared.bit.Bit.TheVariants.{Zero, X}
use Rattle.four_state.proofs.Numbers.{length-vector_of}

pub length-all_x : (width : ℕ) → length (all_x width) ≡ width
unfolding all_x
length-all_x width = length-replicate width X

pub length-vector_of_integer : (width : ℕ) (z : ℤ) → length (vector_of_integer width z) ≡ width
unfolding vector_of_integer
length-vector_of_integer width z = length-vector_of width _

pub length-extended : (width : ℕ) (signed : Bool) (bits : List Bit) → length (extended width signed bits) ≡ width
unfolding extended
length-extended width signed bits =
    rw (length-append (take width bits) (replicate (width - length bits) (cond signed (top_bit bits) Zero)), length-take width bits, length-replicate (width - length bits) (cond signed (top_bit bits) Zero)) (omega arith)

either_width : (width : ℕ) (b : Bool) (x y : List Bit) → length x ≡ width → length y ≡ width → length (cond b x y) ≡ width
either_width width true x y h k = h
either_width width false x y h k = k

pub length-sum_of : (a b : List Bit) → length (sum_of a b) ≡ length a
unfolding sum_of
length-sum_of a b = either_width _ (both_known a b) _ _ (length-vector_of (length a) _) (length-all_x (length a))

pub length-difference_of : (a b : List Bit) → length (difference_of a b) ≡ length a
unfolding difference_of
length-difference_of a b = either_width _ (both_known a b) _ _ (length-vector_of_integer (length a) _) (length-all_x (length a))

pub length-product_of : (a b : List Bit) → length (product_of a b) ≡ length a
unfolding product_of
length-product_of a b = either_width _ (both_known a b) _ _ (length-vector_of (length a) _) (length-all_x (length a))

pub length-negated_of : (a : List Bit) → length (negated_of a) ≡ length a
unfolding negated_of
length-negated_of a = either_width _ (all_known a) _ _ (length-vector_of_integer (length a) _) (length-all_x (length a))

pub length-quotient_of : (signed : Bool) (a b : List Bit) → length (quotient_of signed a b) ≡ length a
unfolding quotient_of
length-quotient_of signed a b =
    either_width _ (can_divide a b) _ _ (either_width _ signed _ _ (length-vector_of_integer (length a) _) (length-vector_of (length a) _)) (length-all_x (length a))

pub length-remainder_of : (signed : Bool) (a b : List Bit) → length (remainder_of signed a b) ≡ length a
unfolding remainder_of
length-remainder_of signed a b =
    either_width _ (can_divide a b) _ _ (either_width _ signed _ _ (length-vector_of_integer (length a) _) (length-vector_of (length a) _)) (length-all_x (length a))

pub length-each_pair : (op : Bit → Bit → Bit) (a b : List Bit) → length a ≡ length b → length (each_pair op a b) ≡ length a
unfolding each_pair
length-each_pair op [] b h = refl
length-each_pair op (x ∷ a) [] h = absurd (omega arith)
length-each_pair op (x ∷ a) (y ∷ b) h = ap suc (length-each_pair op a b (omega arith))

pub length-not_of : (a : List Bit) → length (not_of a) ≡ length a
unfolding not_of
length-not_of a = length-map a not_bit

moved_left : (n : ℕ) (bits : List Bit) → length (replicate (min n (length bits)) Zero ++ take (length bits - n) bits) ≡ length bits
moved_left n bits =
    rw (length-append (replicate (min n (length bits)) Zero) (take (length bits - n) bits), length-replicate (min n (length bits)) Zero, length-take (length bits - n) bits) (omega arith)

pub length-shifted_left : (bits by : List Bit) → length (shifted_left bits by) ≡ length bits
unfolding shifted_left
length-shifted_left bits by = either_width _ (all_known by) _ _ (moved_left (number_of by) bits) (length-all_x (length bits))

moved_right : (n : ℕ) (bits : List Bit) (fill : Bit) → length (drop n bits ++ replicate (min n (length bits)) fill) ≡ length bits
moved_right n bits fill =
    rw (length-append (drop n bits) (replicate (min n (length bits)) fill), length-replicate (min n (length bits)) fill, length-drop n bits) (omega arith)

pub length-shifted_right : (signed : Bool) (bits by : List Bit) → length (shifted_right signed bits by) ≡ length bits
unfolding shifted_right
length-shifted_right signed bits by =
    either_width _ (all_known by) _ _ (moved_right (number_of by) bits (cond signed (top_bit bits) Zero)) (length-all_x (length bits))

pub length-selected : (high low : ℕ) (bits : List Bit) → length (selected high low bits) ≡ high + 1 - low
unfolding selected
length-selected high low bits = length-map-range_with_len _ low (high + 1 - low)
