-- The nets that one net depends on, as marks, and as a list in order of finding.
use Rattle.std.specs.Prelude.{◌≡◌, ℕ, ◌+◌, ◌<◌, ◌≤◌, Bool, true, false, not, ◌⊎◌, List, length, slice_index, slice_index_or, count_by, Contains, Option, Some, None}
use Rattle.blif_device.specs.Rings.{Depends}

abbrev pub is_marked : List Bool → ℕ → Bool
is_marked marks net = slice_index_or marks net false

-- the marked nets are those of the list
pub record IsMarked (marks : List Bool) (found : List ℕ) : Type 0 where
  pub found_marked : (k : ℕ) → k < length found → is_marked marks (slice_index found k) ≡ true
  pub marked_found : (net : ℕ) → is_marked marks net ≡ true → (k : ℕ) × (k < length found) × (slice_index found k ≡ net)

-- Marked nets are ones that the start depends on. What the start reads is marked, and what each of the first `head`
-- nets of the list reads.
pub record Reaches (reads : ℕ → List ℕ) (start : ℕ) (marks : List Bool) (found : List ℕ) (head : ℕ) : Type 0 where
  pub listed : IsMarked marks found
  pub depends : (net : ℕ) → is_marked marks net ≡ true → Depends reads start net
  pub first : (k : ℕ) → k < length (reads start) → is_marked marks (slice_index (reads start) k) ≡ true
  pub next : (j k : ℕ) → j < head → k < length (reads (slice_index found j)) → is_marked marks (slice_index (reads (slice_index found j)) k) ≡ true

-- how many nets may still be looked at, together with those that were
abbrev pub nets_left : List Bool → List ℕ → ℕ
nets_left marks found = count_by not marks + length found

-- some nets were marked and added to the list where they weren't there
pub record MarksAll (nets : List ℕ) (old new : List Bool) (before after : List ℕ) : Type 0 where
  pub size : length new ≡ length old
  pub listed : IsMarked new after
  pub given : (k : ℕ) → k < length nets → is_marked new (slice_index nets k) ≡ true
  pub stays : (net : ℕ) → is_marked old net ≡ true → is_marked new net ≡ true
  pub only : (net : ℕ) → is_marked new net ≡ true → (is_marked old net ≡ true) ⊎ Contains nets net
  pub longer : length before ≤ length after
  pub same : (k : ℕ) → k < length before → slice_index after k ≡ slice_index before k
  pub work : nets_left new after ≡ nets_left old before

-- whether the net depends on itself
abbrev pub TellsRing : (ℕ → List ℕ) → ℕ → Bool → Type 0
TellsRing reads net true = Depends reads net net
TellsRing reads net false = Depends reads net net → ⊥

-- the first of so many nets that depends on itself, or none does
abbrev pub TellsFirst : (ℕ → List ℕ) → ℕ → Option ℕ → Type 0
TellsFirst reads count None = (net : ℕ) → net < count → Depends reads net net → ⊥
TellsFirst reads count (Some first) = (first < count) × Depends reads first first × ((net : ℕ) → net < first → Depends reads net net → ⊥)
