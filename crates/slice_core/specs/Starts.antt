-- Where slices begin, and what they mean.
use Rattle.std.specs.Prelude.{ℕ}
use Rattle.slice_core.specs.Tree.{Tree}

-- where a slice begins: what its thread has still to do, the thread's number, the cycle, and the budget of ticks
pub record Start (R : Type 0) : Type 0 where
  pub rest : R
  pub thread : ℕ
  pub cycle : ℕ
  pub budget : ℕ

-- a meaning of slices: what each start asks, puts, prints and ends with
abbrev pub Meaning : Type 0 → Type 0
Meaning R = Start R → Tree R
