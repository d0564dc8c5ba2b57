-- One thing that is still to do is taken off the list, and replaced by what remains of it.
use Rattle.std.specs.Prelude.{ℕ, suc, ◌+◌, Bool, true, false, List, [], ◌∷◌, Option, Some, None, if◌then◌else◌}
use Rattle.four_state.specs.declared.bit.Bit.{Bit}
use Rattle.store_api.specs.declared.loc.Loc.{Loc}
use Rattle.store_api.specs.declared.val.Val.TheVariants.{Bits}
use Rattle.slice_core.specs.Tree.{Tree, Puts, Emits, Ends, Prints, Drives, Outcome, Cycle}
use Rattle.vera_ast.specs.declared.typed.expr.TypedExpr.{TypedExpr}
use Rattle.vera_ast.specs.declared.typed.names.TypedSignalName.{TypedSignalName}
use Rattle.vera_ast.specs.declared.typed.place.TypedPlace.{TypedPlace}
use Rattle.vera_ast.specs.declared.typed.place.TypedPlace.TheVariants.{Variable}
use Rattle.vera_ast.specs.declared.typed.stmt.TypedChange.{TypedChange}
use Rattle.vera_ast.specs.declared.typed.stmt.TypedChange.TheVariants.{Assign}
use Rattle.vera_ast.specs.declared.typed.stmt.TypedStmt.{TypedStmt, Row_of-TypedStmt, end_of-TypedStmt, more_of-TypedStmt}
use Rattle.vera_ast.specs.declared.typed.stmt.TypedStmt.TheVariants.{Block', Step, While', Printf, Drive, Edge}
use Rattle.vera_ast.specs.declared.typed.types.ValueType.TheVariants.{Vector}
use Rattle.vera_ast.specs.declared.typed.types.VectorType.TheVariants as types
use Rattle.vera_ast.specs.ExprTypes.{type_of}
use Rattle.vera_meaning.specs.Rests.{Here, Item, Do, Again, Rest}
use Rattle.vera_meaning.specs.Operators.{fitted, is_true}
use Rattle.vera_meaning.specs.Formats.{formatted}
use Rattle.vera_meaning.specs.Expressions.{tick, place_of, value, arguments}

-- where a thread goes on
pub data Exit : Type 0 where
  -- behind what was taken off
  After : Exit
  -- with what it has inside
  Inside : Exit
  -- behind what was taken off, in another slice: this one ends so
  Leaves : Outcome Rest → Exit

-- the bits are put at a place, where it is built
abbrev pub written_at : Option Loc → List Bit → Tree Rest → Tree Rest
written_at None bits next = next
written_at (Some l) bits next = Puts l (Bits bits) next

-- What a step does with its tick. Steps other than an assignment to a variable aren't built: they change nothing.
abbrev pub changed : TypedPlace → TypedChange → ℕ → (ℕ → Tree Rest) → Tree Rest
changed (Variable v) (Assign e) ticks next =
    value e ticks (λ bits left. written_at (place_of v.place) (fitted (type_of e) v.of bits) (next left))
changed target change ticks next = next ticks

-- The value, cut or extended to the signal's width, is to be driven in the present cycle. Drives with a delay aren't
-- built: they drive nothing.
abbrev pub driven : Here → TypedSignalName → (delay : Option TypedExpr) → TypedExpr → ℕ → (ℕ → Tree Rest) → Tree Rest
driven here name None e ticks next =
    value e ticks (λ bits left. Emits (Drives here.cycle name.number (fitted (type_of e) (Vector (types.Bits name.width)) bits)) (next left))
driven here name (Some delay) e ticks next = next ticks

-- A statement takes a tick at its start; a block takes none. The statements that aren't named here are empty or not built:
-- they take no tick and have nothing inside.
abbrev pub take_stmt : Here → TypedStmt → ℕ → (Exit → ℕ → Tree Rest) → Tree Rest
take_stmt here (Step s) ticks next = tick ticks (λ left. changed s.target s.change left (next After))
take_stmt here (While' line condition p body) ticks next = tick ticks (next Inside)
take_stmt here (Printf p) ticks next =
    tick ticks (λ left. arguments p.arguments left (λ args left'. Emits (Prints (formatted p.format args)) (next After left')))
take_stmt here (Drive d) ticks next = tick ticks (λ left. driven here d.target d.delay d.value left (next After))
take_stmt here (Edge e) ticks next = tick ticks (next (Leaves (Cycle 1)))
take_stmt here other ticks next = next Inside ticks

-- A loop takes a tick at each test, and goes on exactly where the condition's logical value is 1.
abbrev pub take_item : Here → Item → ℕ → (Exit → ℕ → Tree Rest) → Tree Rest
take_item here (Do s) ticks next = take_stmt here s ticks next
take_item here (Again line condition body) ticks next =
    tick ticks (λ left. value condition left (λ bits left'. next (if is_true bits then Inside else After) left'))

-- statements in front of what is to do
abbrev pub do_all : {m : _} → Row_of-TypedStmt m → List Item → List Item
do_all end_of-TypedStmt rest = rest
do_all (more_of-TypedStmt s stmts) rest = Do s ∷ do_all stmts rest

-- what a statement has inside, in front of the rest
abbrev pub inside : TypedStmt → List Item → List Item
inside (Block' line decls p stmts) rest = do_all stmts rest
inside (While' line condition p (more_of-TypedStmt body end_of-TypedStmt)) rest = Again line condition body ∷ rest
inside other rest = rest

-- what is to do after an item's exit
abbrev pub rest_at : Item → List Item → Exit → List Item
rest_at item rest After = rest
rest_at item rest (Leaves outcome) = rest
rest_at (Do s) rest Inside = inside s rest
rest_at (Again line condition body) rest Inside = Do body ∷ Again line condition body ∷ rest

-- the slice goes on with what is to do, or leaves it to another one
abbrev pub gone_on : Exit → List Item → Tree Rest → Tree Rest
gone_on After items on = on
gone_on Inside items on = on
gone_on (Leaves outcome) items on = Ends outcome (record { agenda = items })

-- whether an item takes no tick
abbrev pub is_free : Item → Bool
is_free (Do (Step s)) = false
is_free (Do (While' line condition p body)) = false
is_free (Do (Printf p)) = false
is_free (Do (Drive d)) = false
is_free (Do (Edge e)) = false
is_free (Do other) = true
is_free (Again line condition body) = false

abbrev mutual
  -- how many statements and blocks there are
  pub stmt_size : TypedStmt → ℕ
  stmt_size (Block' line decls p stmts) = suc (stmts_size stmts)
  stmt_size other = 1

  pub stmts_size : {m : _} → Row_of-TypedStmt m → ℕ
  stmts_size end_of-TypedStmt = 0
  stmts_size (more_of-TypedStmt s stmts) = stmt_size s + stmts_size stmts

-- more than the items without a tick that can be taken off one after another
abbrev pub size_of : List Item → ℕ
size_of [] = 0
size_of (Do s ∷ rest) = stmt_size s + size_of rest
size_of (Again line condition body ∷ rest) = suc (size_of rest)
