-- A statement as the code sees it, and as the definitions match on it.
use Rattle.std.proofs.Common.{◌≡◌, ℕ, List, [], ◌∷◌, ◌++◌, map, true, false, refl, ap}
use Rattle.slice_core.specs.Tree.{Tree}
use Rattle.vera_ast.specs.declared.typed.stmt.TypedBlock.{TypedBlock}
use Rattle.vera_ast.specs.declared.typed.stmt.TypedStmt.{TypedStmt}
use Rattle.vera_ast.specs.declared.typed.stmt.TypedStmt.TheViews as views
use Rattle.vera_ast.specs.declared.typed.stmt.TypedStmt.TheBlock.{hidden-the_row-TypedStmt-0 as row, hidden-the_row-TypedStmt-1}
use Rattle.vera_ast.specs.declared.typed.stmt.TypedWhile.{TypedWhile}
use Rattle.vera_meaning.specs.Rests.{Here, Item, Do, Again, Rest}
use Rattle.vera_meaning.specs.Expressions.{tick}
use Rattle.vera_meaning.specs.Statements.{Exit, Inside, take_stmt, do_all, inside, is_free}

pub take_stmt-block : (here : Here) (b : TypedBlock) (ticks : ℕ) (next : Exit → ℕ → Tree Rest) → take_stmt here (views.Block b) ticks next ≡ next Inside ticks
unfolding Rattle.vera_ast.specs.declared.typed.stmt.TypedStmt.TheViews.roll-TypedStmt denote.Hole.Carrier.roll denote.Hole.Carrier.hidden
take_stmt-block here b ticks next = refl

pub take_stmt-while : (here : Here) (w : TypedWhile) (ticks : ℕ) (next : Exit → ℕ → Tree Rest) → take_stmt here (views.While w) ticks next ≡ tick ticks (next Inside)
unfolding Rattle.vera_ast.specs.declared.typed.stmt.TypedStmt.TheViews.roll-TypedStmt denote.Hole.Carrier.roll denote.Hole.Carrier.hidden
take_stmt-while here w ticks next = refl

pub inside-while : (w : TypedWhile) (rest : List Item) → inside (views.While w) rest ≡ Again w.line w.condition w.body ∷ rest
unfolding Rattle.vera_ast.specs.declared.typed.stmt.TypedStmt.TheViews.roll-TypedStmt Rattle.vera_ast.specs.declared.typed.stmt.TypedStmt.TheBlock.hidden-the_row-TypedStmt-1 denote.Hole.Carrier.roll denote.Hole.Carrier.hidden
inside-while w rest = refl

pub is_free-block : (b : TypedBlock) → is_free (Do (views.Block b)) ≡ true
unfolding Rattle.vera_ast.specs.declared.typed.stmt.TypedStmt.TheViews.roll-TypedStmt denote.Hole.Carrier.roll denote.Hole.Carrier.hidden
is_free-block b = refl

pub is_free-while : (w : TypedWhile) → is_free (Do (views.While w)) ≡ false
unfolding Rattle.vera_ast.specs.declared.typed.stmt.TypedStmt.TheViews.roll-TypedStmt denote.Hole.Carrier.roll denote.Hole.Carrier.hidden
is_free-while w = refl

do_all_row : (stmts : List TypedStmt) (rest : List Item) → do_all (row stmts) rest ≡ map Do stmts ++ rest
unfolding Rattle.vera_ast.specs.declared.typed.stmt.TypedStmt.TheBlock.hidden-the_row-TypedStmt-0 denote.Hole.Carrier.roll denote.Hole.Carrier.hidden
do_all_row [] rest = refl
do_all_row (s ∷ stmts) rest = ap (λ items. Do s ∷ items) (do_all_row stmts rest)

pub inside-block : (b : TypedBlock) (rest : List Item) → inside (views.Block b) rest ≡ map Do b.stmts ++ rest
unfolding Rattle.vera_ast.specs.declared.typed.stmt.TypedStmt.TheViews.roll-TypedStmt denote.Hole.Carrier.roll denote.Hole.Carrier.hidden
inside-block b rest = do_all_row b.stmts rest
