-- How often something outside has failed, as a count of 64 bits.
use Rattle.std.specs.Prelude.{ℕ, ◌+◌, ◌-◌, ◌^◌, ◌<◌, ◌≤◌, min}
use Rattle.std.proofs.Common.{suc-le-suc}
use Rattle.std.proofs.Math.Nat.{min-le_right}

-- a count as it is kept: it stands still at 2^64 - 1
abbrev pub capped : ℕ → ℕ
capped count = min count (2 ^ 64 - 1)

-- a count that is kept has 64 bits
pub capped-fits : (count : ℕ) → capped count < 2 ^ 64
capped-fits count = suc-le-suc (min-le_right count (2 ^ 64 - 1))

-- the count with one more
abbrev pub raised : ℕ → ℕ
raised count = capped (count + 1)

-- the count rose: it has at least one more than before, or stands at 2^64 - 1
abbrev pub Rose : ℕ → ℕ → Type 0
Rose old new = raised old ≤ new
