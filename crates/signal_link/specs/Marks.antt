-- Lists of nets as marks, one a net.
use Rattle.std.specs.Prelude.{◌≡◌, ℕ, ◌==◌, Bool, false, List, slice_index_or}
use Rattle.std.specs.List.{list_any}

-- the nets of the list have a mark, and no others
pub record AreMarks (marks : List Bool) (nets : List ℕ) : Type 0 where
  pub has : (net : ℕ) → slice_index_or marks net false ≡ list_any (λ other. net == other) nets
