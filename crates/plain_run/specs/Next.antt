-- The next thing that takes a tick.
use Rattle.std.specs.Prelude.{List, [], ◌∷◌, Option, Some, None}
use Rattle.vera_meaning.specs.Rests.{Item}
use Rattle.plain_run.specs.declared.evaluate.work.Timed.{Timed}
use Rattle.plain_run.specs.Work.{timed_item}
use Rattle.plain_run.specs.Going.{Finds}

-- a slice before these items stands before the found one and what is left, or nothing is left to do
abbrev pub FindsNext : List Item → Option Timed → List Item → Type 0
FindsNext items None left = Finds items []
FindsNext items (Some t) left = Finds items (timed_item t ∷ left)
