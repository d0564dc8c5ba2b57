-- Tables of words, as the code has them.
use Rattle.std.specs.Prelude.{ℕ, List, map}
use denote.Ref.{Bor}

abbrev pub row_of : {A : Type 0} → Bor (List ℕ) × A → List ℕ × A
row_of row = (row.0.now, row.1)

abbrev pub rows_of : {A : Type 0} → List (Bor (List ℕ) × A) → List (List ℕ × A)
rows_of rows = map row_of rows
