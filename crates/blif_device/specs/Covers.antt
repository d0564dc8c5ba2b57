-- The three-valued value of a cover (BLIF, "Logic gates").
use Rattle.std.specs.Prelude.{ℕ, ◌==◌, Bool, true, false, List, [], ◌∷◌, map, if◌then◌else◌}
use Rattle.std.specs.List.{fold, zip}
use Rattle.four_state.specs.Logic.{and_logic, or_logic, not_logic}
use Rattle.four_state.specs.declared.bit.Bit3.{Bit3}
use Rattle.four_state.specs.declared.bit.Bit3.TheVariants.{Zero, One}
use Rattle.blif_read.specs.declared.netlist.NetCover.{NetCover}
use Rattle.blif_device.specs.Valuations.{Valuation}

-- `1` is the net's value, `0` its negation, `-` is 1
abbrev pub literal_value : ℕ → Bit3 → Bit3
literal_value literal value = if literal == 49 then value else (if literal == 48 then not_logic value else One)

-- the and of some values, the or of some values
abbrev pub all_of : List Bit3 → Bit3
all_of values = fold and_logic One values

abbrev pub any_of : List Bit3 → Bit3
any_of values = fold or_logic Zero values

-- the value of the literal beside each net of a row
abbrev pub literal_values : Valuation → List (ℕ × ℕ) → List Bit3
literal_values v literals = map (λ l. literal_value l.1 (v l.0)) literals

-- the and of a row's literals
unfoldable pub row_value : Valuation → List ℕ → List ℕ → Bit3
row_value v inputs row = all_of (literal_values v (zip inputs row))

-- 0 without rows; else what the rows give, negated for an off-set
abbrev pub output_value : Bool → List (List ℕ) → Bit3 → Bit3
output_value on [] value = Zero
output_value true (row ∷ rows) value = value
output_value false (row ∷ rows) value = not_logic value

-- the or of a cover's rows, negated for an off-set cover; 0 without rows
unfoldable pub cover_value : Valuation → NetCover → Bit3
cover_value v cover = output_value cover.on cover.rows (any_of (map (row_value v cover.inputs) cover.rows))
