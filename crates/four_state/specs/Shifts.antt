-- Shifts (IEEE 1364, "Shift operators"): the amount is unsigned, and all bits are x where it has an x or z.
use Rattle.std.specs.Prelude.{◌-◌, min, Bool, List, ◌++◌, length, take, drop, replicate, if◌then◌else◌}
use Rattle.four_state.specs.Bits.{all_known, all_x, top_bit}
use Rattle.four_state.specs.Numbers.{number_of}
use Rattle.four_state.specs.declared.bit.Bit.{Bit}
use Rattle.four_state.specs.declared.bit.Bit.TheVariants.{Zero}

-- bits << by, filled with 0
unfoldable pub shifted_left : List Bit → List Bit → List Bit
shifted_left bits by =
    if all_known by then
    replicate (min (number_of by) (length bits)) Zero ++ take (length bits - number_of by) bits
    else all_x (length bits)

-- bits >> by, filled with the top bit where it is signed, else with 0
unfoldable pub shifted_right : Bool → List Bit → List Bit → List Bit
shifted_right signed bits by =
    if all_known by then
    drop (number_of by) bits ++ replicate (min (number_of by) (length bits)) (if signed then top_bit bits else Zero)
    else all_x (length bits)
