-- What a slice tells beside its writes.
use Rattle.std.specs.Prelude.{ℕ, List, [], ◌∷◌, ◌++◌}
use Rattle.slice_core.specs.Tree.{Effect, Prints, Drives}
use Rattle.run_rules.specs.declared.drive.Drive.{Drive}
use Rattle.plain_run.specs.declared.evaluate.log.Log.{Log}

-- bytes that were printed, and drives that are due
pub record Told : Type 0 where
  pub printed : List ℕ
  pub due : List Drive

abbrev pub told : Log → Told
told log = record { printed = log.printed.items; due = log.due.items }

abbrev pub nothing_told : Told
nothing_told = record { printed = []; due = [] }

-- with one effect more
abbrev pub tells : Told → Effect → Told
tells t (Prints bytes) = record t { printed = t.printed ++ bytes }
tells t (Drives cycle signal bits) = record t { due = t.due ++ record { cycle = cycle; signal = signal; bits = bits } ∷ [] }

-- with more effects, in order
abbrev pub tells_all : Told → List Effect → Told
tells_all t [] = t
tells_all t (e ∷ es) = tells_all (tells t e) es
