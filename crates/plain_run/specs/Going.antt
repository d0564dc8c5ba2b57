-- Where the evaluator stands in a slice.
use Rattle.std.specs.Prelude.{◌≡◌, ℕ, ◌<◌, ◌≤◌, List}
use Rattle.store_api.specs.Places.{Contents}
use Rattle.slice_core.specs.Tree.{Effect}
use Rattle.slice_core.specs.Walks.{End, walked_from}
use Rattle.vera_meaning.specs.Rests.{Here, Item, Rest}
use Rattle.vera_meaning.specs.Statements.{size_of}
use Rattle.vera_meaning.specs.Slices.{until_tick, all_items}
use Rattle.plain_run.specs.Logs.{Told, tells_all}

-- From here on a slice with this end goes on: it has told what stands behind the start, these items are still to do
-- with so many ticks left, and these are the contents.
pub record IsAt (here : Here) (goal : End Rest) (start log : Told) (items : List Item) (ticks : ℕ) (contents : Contents) : Type 0 where
  pub effects : List Effect
  pub bound : ℕ
  pub free : ℕ
  pub ticks_within : ticks ≤ bound
  pub free_within : size_of items < free
  pub log_is : log ≡ tells_all start effects
  pub same : walked_from (until_tick here (all_items here bound) free items ticks) contents effects ≡ goal

-- wherever a slice stands before these items, it stands before those
abbrev pub Finds : List Item → List Item → Type 0
Finds items items' = (here : Here) (goal : End Rest) (start log : Told) (ticks : ℕ) (c : Contents) → IsAt here goal start log items ticks c → IsAt here goal start log items' ticks c
