-- Sets of nets as marks, one a net.
use Rattle.std.specs.Prelude.{◌≡◌, ℕ, ◌<◌, Bool, false, ◌||◌, List, length, slice_index_or, All}
use Rattle.blif_read.specs.Refusals.{is_in, meet, has_repeat}

-- the marks are those of the nets in the list
pub record IsSet (marks : List Bool) (nets : List ℕ) : Type 0 where
  pub has : (net : ℕ) → net < length marks → slice_index_or marks net false ≡ is_in nets net

abbrev pub AllBelow : ℕ → List ℕ → Type 0
AllBelow count nets = All (λ net. net < count) nets

-- whether one of the nets is among those already, or stands twice
unfoldable pub clashes : List ℕ → List ℕ → Bool
clashes known nets = has_repeat nets || meet known nets
