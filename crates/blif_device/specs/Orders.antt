-- An order in which each net comes behind all that it reads.
use Rattle.std.specs.Prelude.{◌≡◌, ◌≢◌, ℕ, ◌<◌, List, length, slice_index}

pub record IsOrder (reads : ℕ → List ℕ) (count : ℕ) (order : List ℕ) : Type 0 where
  pub below : (p : ℕ) → p < length order → slice_index order p < count
  pub earlier : (p k : ℕ) → p < length order → k < length (reads (slice_index order p)) → (q : ℕ) × (q < p) × (slice_index order q ≡ slice_index (reads (slice_index order p)) k)
  pub distinct : (p q : ℕ) → p < q → q < length order → slice_index order p ≢ slice_index order q
  pub all : (net : ℕ) → net < count → (p : ℕ) × (p < length order) × (slice_index order p ≡ net)

-- each net below count reads nets below count
abbrev pub ReadsBelow : (ℕ → List ℕ) → ℕ → Type 0
ReadsBelow reads count = (net k : ℕ) → net < count → k < length (reads net) → slice_index (reads net) k < count
