-- The words of a vector.
use Rattle.std.specs.Prelude.{ℕ, ◌^◌, ◌<◌, ◌≤◌}

-- the width is 1 to 128, and no bit stands at or above it
pub record AreWords (width ones unknown : ℕ) : Type 0 where
  pub low : 1 ≤ width
  pub high : width ≤ 128
  pub ones_fit : ones < 2 ^ width
  pub unknown_fit : unknown < 2 ^ width
