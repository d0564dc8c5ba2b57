-- The index that finds the number of a net by its name.
use Rattle.std.specs.Prelude.{◌≡◌, ℕ, List, length, bytes_eq, Vec}
use Rattle.std.specs.List.{position_from}
use Rattle.std.specs.HashMap.{HashMap, get_by}
use Rattle.blif_read.specs.Directives.{Name}
use Rattle.signal_link.specs.declared.numbers.NetNumbers.{NetNumbers}

-- the map has the first place of each name that is known, and no other name
pub record FindsFirst {A S : Type 0} (numbers : HashMap (Vec ℕ A) ℕ S) (known : List Name) : Type 0 where
  pub finds : (name : Name) → get_by (λ key. bytes_eq name key.items) numbers ≡ position_from (bytes_eq name) 0 known

-- the index of nets of these names
pub record IsNumbering (n : NetNumbers) (known : List Name) : Type 0 where
  pub count : n.count ≡ length known
  pub first : FindsFirst n.numbers known
