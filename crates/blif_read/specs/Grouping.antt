-- Blocks with one more row.
use Rattle.std.specs.Prelude.{List, [], ◌∷◌, ◌++◌}
use Rattle.blif_read.specs.declared.directives.Row.{Row}
use Rattle.blif_read.specs.declared.directives.Block.{Block}
use Rattle.blif_read.specs.Directives.{Name}

-- the row behind those of the last block; without a block it is lost
abbrev pub with_row : Row → List (Block Name) → List (Block Name)
with_row row [] = []
with_row row (b ∷ []) = record b { rows = b.rows ++ row ∷ [] } ∷ []
with_row row (b ∷ next ∷ more) = b ∷ with_row row (next ∷ more)
