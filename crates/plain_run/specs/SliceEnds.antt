-- How a slice ended, and what it left.
use Rattle.std.specs.Prelude.{◌≡◌, List}
use Rattle.store_api.specs.Places.{Contents}
use Rattle.slice_core.specs.Tree.{Outcome, Ended, Spent, Cycle}
use Rattle.slice_core.specs.Walks.{End}
use Rattle.vera_meaning.specs.Rests.{Item, Rest}
use Rattle.plain_run.specs.declared.evaluate.slice.SliceEnd.{SliceEnd}
use Rattle.plain_run.specs.declared.evaluate.slice.SliceEnd.TheVariants as ends
use Rattle.plain_run.specs.Logs.{Told, tells_all}

abbrev pub outcome_of : SliceEnd → Outcome Rest
outcome_of ends.Ended = Ended
outcome_of ends.Spent = Spent
outcome_of ends.Waits = Cycle 1

-- The slice ended so. It told what the new log has more than the old one, and left these contents. Where its thread
-- waits, these items are still to do.
pub record EndsSo (end : SliceEnd) (old new : Told) (contents : Contents) (items : List Item) (slice : End Rest) : Type 0 where
  pub outcome : slice.outcome ≡ outcome_of end
  pub log : new ≡ tells_all old slice.effects
  pub contents_are : contents ≡ slice.contents
  pub rest : end ≡ ends.Waits → slice.rest ≡ record { agenda = items }
