-- Vectors joined, and bits taken out of them (IEEE 1364, "Concatenations" and "Vector bit-select and part-select").
use Rattle.std.specs.Prelude.{ℕ, ◌+◌, ◌-◌, List, ◌++◌, map, slice_index_or}
use Rattle.std.specs.List.{range_with_len}
use Rattle.four_state.specs.declared.bit.Bit.{Bit}
use Rattle.four_state.specs.declared.bit.Bit.TheVariants.{X}

-- {high, low}
abbrev pub joined : List Bit → List Bit → List Bit
joined high low = low ++ high

-- bits[high:low], x outside the width
unfoldable pub selected : ℕ → ℕ → List Bit → List Bit
selected high low bits = map (λ i. slice_index_or bits i X) (range_with_len low (high + 1 - low))
