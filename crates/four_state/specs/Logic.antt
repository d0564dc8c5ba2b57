-- Logical values (IEEE 1364, "Logical operators").
use Rattle.std.specs.Prelude.{List, [], ◌∷◌, if◌then◌else◌}
use Rattle.std.specs.List.{list_any, list_all}
use Rattle.four_state.specs.Bits.{bit_eq}
use Rattle.four_state.specs.declared.bit.Bit.{Bit}
use Rattle.four_state.specs.declared.bit.Bit.TheVariants as bit
use Rattle.four_state.specs.declared.bit.Bit3.{Bit3}
use Rattle.four_state.specs.declared.bit.Bit3.TheVariants as bit3

-- 1 where some bit is 1, 0 where all are 0, else x
unfoldable pub logic_of : List Bit → Bit3
logic_of bits =
    if list_any (bit_eq bit.One) bits then bit3.One
    else (if list_all (bit_eq bit.Zero) bits then bit3.Zero else bit3.X)

-- the bit of a logical value
abbrev pub logic_bit : Bit3 → Bit
logic_bit bit3.Zero = bit.Zero
logic_bit bit3.One = bit.One
logic_bit bit3.X = bit.X

-- 0 && any is 0, 1 && 1 is 1, else x
abbrev pub and_logic : Bit3 → Bit3 → Bit3
and_logic bit3.Zero b = bit3.Zero
and_logic bit3.One b = b
and_logic bit3.X bit3.Zero = bit3.Zero
and_logic bit3.X bit3.One = bit3.X
and_logic bit3.X bit3.X = bit3.X

-- 1 || any is 1, 0 || 0 is 0, else x
abbrev pub or_logic : Bit3 → Bit3 → Bit3
or_logic bit3.One b = bit3.One
or_logic bit3.Zero b = b
or_logic bit3.X bit3.One = bit3.One
or_logic bit3.X bit3.Zero = bit3.X
or_logic bit3.X bit3.X = bit3.X

abbrev pub not_logic : Bit3 → Bit3
not_logic bit3.Zero = bit3.One
not_logic bit3.One = bit3.Zero
not_logic bit3.X = bit3.X

-- one bit each, of the logical values
abbrev pub logic_and_of : List Bit → List Bit → List Bit
logic_and_of a b = logic_bit (and_logic (logic_of a) (logic_of b)) ∷ []

abbrev pub logic_or_of : List Bit → List Bit → List Bit
logic_or_of a b = logic_bit (or_logic (logic_of a) (logic_of b)) ∷ []

abbrev pub logic_not_of : List Bit → List Bit
logic_not_of a = logic_bit (not_logic (logic_of a)) ∷ []
