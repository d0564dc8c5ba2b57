-- A slice of a thread: items are taken off until the thread ends or waits, or its budget is spent.
use Rattle.std.specs.Prelude.{ℕ, zero, suc, List, [], ◌∷◌, if◌then◌else◌}
use Rattle.slice_core.specs.Tree.{Tree, Ends, Ended, Spent}
use Rattle.vera_ast.specs.declared.typed.stmt.TypedBlock.{TypedBlock}
use Rattle.vera_ast.specs.declared.typed.stmt.TypedStmt.TheViews.{Block}
use Rattle.vera_meaning.specs.Rests.{Here, Item, Do, Rest, nothing_left}
use Rattle.vera_meaning.specs.Statements.{take_item, rest_at, gone_on, is_free, size_of}

-- Items are taken off up to and with the first that takes a tick. At most `free` of them take none: more than
-- there can be, so that the first line never counts.
abbrev pub until_tick : Here → (List Item → ℕ → Tree Rest) → (free : ℕ) → List Item → ℕ → Tree Rest
until_tick here later zero items ticks = Ends Spent nothing_left
until_tick here later (suc free) [] ticks = Ends Ended nothing_left
until_tick here later (suc free) (i ∷ rest) ticks =
    take_item here i ticks (λ exit left.
    gone_on exit (rest_at i rest exit)
    (if is_free i then until_tick here later free (rest_at i rest exit) left else later (rest_at i rest exit) left))

-- At most `bound` items that take a tick are taken off: more than there are ticks, so that the first line never counts.
abbrev pub all_items : Here → (bound : ℕ) → List Item → ℕ → Tree Rest
all_items here zero items ticks = Ends Spent nothing_left
all_items here (suc bound) items ticks = until_tick here (all_items here bound) (suc (size_of items)) items ticks

-- the slice of a rest with a budget of ticks
unfoldable pub slice_of : Here → Rest → ℕ → Tree Rest
slice_of here rest budget = all_items here (suc budget) rest.agenda budget

-- the rest of a thread that begins with a block
abbrev pub rest_of : TypedBlock → Rest
rest_of block = record { agenda = Do (Block block) ∷ [] }
