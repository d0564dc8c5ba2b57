-- A sink over a stream, as contracts see it.
use Rattle.std.specs.Prelude.{ℕ}

pub record StreamState (W : Type 0) : Type 0 where
  pub stream : W
  -- how many calls failed
  pub faults : ℕ
