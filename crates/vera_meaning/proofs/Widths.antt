-- The width of what is cut or extended.
use Rattle.std.proofs.Common.{◌≡◌, ℕ, Bool, List, length, arith}
use Rattle.std.proofs.lemmas.Grind.{common_steps}
use Rattle.four_state.specs.declared.bit.Bit.{Bit}
use Rattle.four_state.specs.Bits.{extended}

pub length-extended : (width : ℕ) (signed : Bool) (bits : List Bit) → length (extended width signed bits) ≡ width
unfolding extended
length-extended width signed bits = grind (arith, common_steps)
