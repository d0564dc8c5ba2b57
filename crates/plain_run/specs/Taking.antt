-- What the evaluator does with something whose tick was taken.
use Rattle.std.specs.Prelude.{ℕ, suc, List}
use Rattle.store_api.specs.Places.{Contents}
use Rattle.slice_core.specs.Walks.{End}
use Rattle.vera_meaning.specs.Rests.{Item, Rest}
use Rattle.plain_run.specs.declared.evaluate.slice.SliceEnd.TheVariants as ends
use Rattle.plain_run.specs.declared.evaluate.stmt.Taken.{Taken}
use Rattle.plain_run.specs.declared.evaluate.stmt.Taken.TheVariants as taken
use Rattle.plain_run.specs.Going.{IsAt}
use Rattle.plain_run.specs.Logs.{Told}
use Rattle.plain_run.specs.SliceEnds.{EndsSo}

-- a slice that stands before these items, with a tick, goes on before those, or its thread waits before those
abbrev pub TakenSo : Taken → (cycle : ℕ) → (before after : List Item) → (old new : Told) → (c d : Contents) → Type 0
TakenSo taken.GoesOn cycle before after old new c d =
    (goal : End Rest) (start : Told) (ticks : ℕ) → IsAt (record { thread = 1; cycle = cycle }) goal start old before (suc ticks) c → IsAt (record { thread = 1; cycle = cycle }) goal start new after ticks d
TakenSo taken.Waits cycle before after old new c d =
    (goal : End Rest) (start : Told) (ticks : ℕ) → IsAt (record { thread = 1; cycle = cycle }) goal start old before (suc ticks) c → EndsSo ends.Waits start new d after goal
