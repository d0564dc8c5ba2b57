-- The evaluator's work list, as what is still to do. Its last entry comes first.
use Rattle.std.specs.Prelude.{◌≡◌, List, true, map, reverse}
use Rattle.vera_meaning.specs.Rests.{Item, Do as DoItem, Again as AgainItem}
use Rattle.vera_meaning.specs.Statements.{Inside, is_free, rest_at}
use Rattle.vera_ast.specs.declared.typed.stmt.TypedStmt.TheVariants.{Step, Printf, Drive, Edge}
use Rattle.vera_ast.specs.declared.typed.stmt.TypedStmt.TheViews.{Block, While}
use Rattle.plain_run.specs.declared.evaluate.work.Work.{Work}
use Rattle.plain_run.specs.declared.evaluate.work.Work.TheVariants as work
use Rattle.plain_run.specs.declared.evaluate.work.Front.{Front}
use Rattle.plain_run.specs.declared.evaluate.work.Front.TheVariants as fronts
use Rattle.plain_run.specs.declared.evaluate.work.Timed.{Timed}
use Rattle.plain_run.specs.declared.evaluate.work.Timed.TheVariants as timed

abbrev pub item_of : Work → Item
item_of (work.Block b) = DoItem (Block b.now)
item_of (work.Do s) = DoItem s.now
item_of (work.Again w) = AgainItem w.now.line w.now.condition w.now.body

abbrev pub agenda_of : List Work → List Item
agenda_of list = map item_of (reverse list)

abbrev pub timed_item : Timed → Item
timed_item (timed.Step s) = DoItem (Step s.now)
timed_item (timed.While w) = DoItem (While w.now)
timed_item (timed.Printf p) = DoItem (Printf p.now)
timed_item (timed.Drive d) = DoItem (Drive d.now)
timed_item (timed.Edge e) = DoItem (Edge e.now)
timed_item (timed.Test w) = AgainItem w.now.line w.now.condition w.now.body

-- what an item is at its front
abbrev pub IsFront : Front → Item → Type 0
IsFront (fronts.Block b) item = item ≡ DoItem (Block b.now)
IsFront (fronts.Timed t) item = item ≡ timed_item t
IsFront fronts.Nothing item = (is_free item ≡ true) × ((rest : List Item) → rest_at item rest Inside ≡ rest)
