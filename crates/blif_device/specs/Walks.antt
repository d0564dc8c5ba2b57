-- What a walk along dependences keeps.
use Rattle.std.specs.Prelude.{◌≡◌, ◌≢◌, ℕ, ◌+◌, ◌*◌, ◌<◌, ◌≤◌, Bool, true, false, List, length, slice_index, slice_index_or, sum, count_by}
use Rattle.blif_device.specs.declared.walk.Mark.{Mark}
use Rattle.blif_device.specs.declared.walk.Mark.TheVariants.{New, Open, Done}
use Rattle.blif_device.specs.Rings.{Depends}

abbrev pub mark_at : List Mark → ℕ → Mark
mark_at marks net = slice_index_or marks net New

abbrev pub is_new : Mark → Bool
is_new New = true
is_new (Open place) = false
is_new Done = false

-- The path leads from net to net by what they read. Of each net the inputs from `left` on are done. Done nets stand in
-- the order, each behind what it reads.
pub record Walks (reads : ℕ → List ℕ) (count : ℕ) (marks : List Mark) (left path order : List ℕ) : Type 0 where
  pub marks_size : length marks ≡ count
  pub left_size : length left ≡ count
  pub bounded : (x : ℕ) → x < count → slice_index left x ≤ length (reads x)
  pub path_open : (k : ℕ) → k < length path → mark_at marks (slice_index path k) ≡ Open k
  pub open_path : (x k : ℕ) → mark_at marks x ≡ Open k → (k < length path) × (slice_index path k ≡ x)
  pub linked : (i j : ℕ) → i < j → j < length path → Depends reads (slice_index path i) (slice_index path j)
  pub looked : (x k : ℕ) → x < count → slice_index left x ≤ k → k < length (reads x) → mark_at marks (slice_index (reads x) k) ≡ Done
  pub done_left : (x : ℕ) → mark_at marks x ≡ Done → slice_index left x ≡ 0
  pub order_done : (p : ℕ) → p < length order → mark_at marks (slice_index order p) ≡ Done
  pub done_order : (x : ℕ) → mark_at marks x ≡ Done → (p : ℕ) × (p < length order) × (slice_index order p ≡ x)
  pub distinct : (p q : ℕ) → p < q → q < length order → slice_index order p ≢ slice_index order q
  pub earlier : (p k : ℕ) → p < length order → k < length (reads (slice_index order p)) → (q : ℕ) × (q < p) × (slice_index order q ≡ slice_index (reads (slice_index order p)) k)

-- how many steps a walk may still take
abbrev pub steps_left : List Mark → List ℕ → List ℕ → ℕ
steps_left marks left path = sum left + 2 * count_by is_new marks + length path
