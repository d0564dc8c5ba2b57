-- What a slice does with each kind of item that stands first.
use Rattle.std.proofs.Common.{◌≡◌, ℕ, suc, List, ◌∷◌, ◌++◌, map, Some, None, Bool, true, false, if◌then◌else◌, refl, ap, ◌∙◌}
use Rattle.store_api.specs.declared.loc.Loc.{Loc}
use Rattle.store_api.specs.declared.val.Val.TheVariants.{Bits}
use Rattle.slice_core.specs.Tree.{Tree, Puts, Emits, Prints, Drives, Ends, Ended, Spent, Cycle}
use Rattle.vera_ast.specs.declared.typed.expr.TypedExpr.{TypedExpr}
use Rattle.vera_ast.specs.declared.typed.names.TypedVariable.{TypedVariable}
use Rattle.vera_ast.specs.declared.typed.place.TypedPlace.TheVariants as places
use Rattle.vera_ast.specs.declared.typed.stmt.TypedBlock.{TypedBlock}
use Rattle.vera_ast.specs.declared.typed.stmt.TypedChange.TheVariants.{Assign}
use Rattle.vera_ast.specs.declared.typed.stmt.TypedDrive.{TypedDrive}
use Rattle.vera_ast.specs.declared.typed.stmt.TypedEdge.{TypedEdge}
use Rattle.vera_ast.specs.declared.typed.stmt.TypedPrintf.{TypedPrintf}
use Rattle.vera_ast.specs.declared.typed.stmt.TypedStep.{TypedStep}
use Rattle.vera_ast.specs.declared.typed.stmt.TypedStmt.{TypedStmt}
use Rattle.vera_ast.specs.declared.typed.stmt.TypedStmt.TheVariants.{Step, Printf, Drive, Edge}
use Rattle.vera_ast.specs.declared.typed.stmt.TypedStmt.TheViews.{Block, While}
use Rattle.vera_ast.specs.declared.typed.stmt.TypedWhile.{TypedWhile}
use Rattle.vera_ast.specs.declared.typed.types.ValueType.TheVariants.{Vector}
use Rattle.vera_ast.specs.declared.typed.types.VectorType.TheVariants as types
use Rattle.vera_ast.specs.ExprTypes.{type_of}
use Rattle.vera_meaning.specs.Rests.{Here, Item, Do, Again, Rest, nothing_left}
use Rattle.vera_meaning.specs.Operators.{fitted, is_true}
use Rattle.vera_meaning.specs.Formats.{formatted}
use Rattle.vera_meaning.specs.Expressions.{place_of, value, arguments}
use Rattle.vera_meaning.specs.Statements.{Exit, After, Inside, written_at, driven, rest_at, gone_on}
use Rattle.vera_meaning.specs.Slices.{slice_of}
use Rattle.vera_meaning.proofs.Bounds.{slice_of-item}
use Rattle.vera_meaning.proofs.StatementViews.{take_stmt-block, take_stmt-while, inside-block, inside-while}

-- the slice of these items
abbrev slice : Here → List Item → ℕ → Tree Rest
slice here items ticks = slice_of here (record { agenda = items }) ticks

-- what is done behind the first item
abbrev behind : Here → Item → List Item → Exit → ℕ → Tree Rest
behind here i rest exit left = gone_on exit (rest_at i rest exit) (slice here (rest_at i rest exit) left)

pub slice_of-nothing : (here : Here) (budget : ℕ) → slice_of here nothing_left budget ≡ Ends Ended nothing_left
unfolding slice_of
slice_of-nothing here budget = refl

pub slice_of-block : (here : Here) (b : TypedBlock) (rest : List Item) (budget : ℕ) → slice_of here (record { agenda = Do (Block b) ∷ rest }) budget ≡ slice_of here (record { agenda = map Do b.stmts ++ rest }) budget
slice_of-block here b rest budget =
    slice_of-item here (Do (Block b)) rest budget
    ∙ (take_stmt-block here b budget (behind here (Do (Block b)) rest)
    ∙ ap (λ items. slice here items budget) (inside-block b rest))

pub step-spent : (here : Here) (s : TypedStep) (rest : List Item) → slice_of here (record { agenda = Do (Step s) ∷ rest }) 0 ≡ Ends Spent nothing_left
step-spent here s rest = slice_of-item here (Do (Step s)) rest 0

pub step-done : (here : Here) (line : ℕ) (v : TypedVariable) (l : Loc) (e : TypedExpr) (rest : List Item) (ticks : ℕ) → place_of v.place ≡ Some l → slice_of here (record { agenda = Do (Step (record { line = line; target = places.Variable v; change = Assign e })) ∷ rest }) (suc ticks) ≡ value e ticks (λ bits left. Puts l (Bits (fitted (type_of e) v.of bits)) (slice_of here (record { agenda = rest }) left))
step-done here line v l e rest ticks built =
    slice_of-item here (Do (Step (record { line = line; target = places.Variable v; change = Assign e }))) rest (suc ticks)
    ∙ ap (λ o. value e ticks (λ bits left. written_at o (fitted (type_of e) v.of bits) (slice here rest left))) built

pub printf-spent : (here : Here) (p : TypedPrintf) (rest : List Item) → slice_of here (record { agenda = Do (Printf p) ∷ rest }) 0 ≡ Ends Spent nothing_left
printf-spent here p rest = slice_of-item here (Do (Printf p)) rest 0

pub printf-done : (here : Here) (p : TypedPrintf) (rest : List Item) (ticks : ℕ) → slice_of here (record { agenda = Do (Printf p) ∷ rest }) (suc ticks) ≡ arguments p.arguments ticks (λ args left. Emits (Prints (formatted p.format args)) (slice_of here (record { agenda = rest }) left))
printf-done here p rest ticks = slice_of-item here (Do (Printf p)) rest (suc ticks)

pub drive-spent : (here : Here) (d : TypedDrive) (rest : List Item) → slice_of here (record { agenda = Do (Drive d) ∷ rest }) 0 ≡ Ends Spent nothing_left
drive-spent here d rest = slice_of-item here (Do (Drive d)) rest 0

pub drive-done : (here : Here) (d : TypedDrive) (rest : List Item) (ticks : ℕ) → d.delay ≡ None → slice_of here (record { agenda = Do (Drive d) ∷ rest }) (suc ticks) ≡ value d.value ticks (λ bits left. Emits (Drives here.cycle d.target.number (fitted (type_of d.value) (Vector (types.Bits d.target.width)) bits)) (slice_of here (record { agenda = rest }) left))
drive-done here d rest ticks built =
    slice_of-item here (Do (Drive d)) rest (suc ticks)
    ∙ ap (λ o. driven here d.target o d.value ticks (slice here rest)) built

pub edge-spent : (here : Here) (e : TypedEdge) (rest : List Item) → slice_of here (record { agenda = Do (Edge e) ∷ rest }) 0 ≡ Ends Spent nothing_left
edge-spent here e rest = slice_of-item here (Do (Edge e)) rest 0

pub edge-waits : (here : Here) (e : TypedEdge) (rest : List Item) (ticks : ℕ) → slice_of here (record { agenda = Do (Edge e) ∷ rest }) (suc ticks) ≡ Ends (Cycle 1) (record { agenda = rest })
edge-waits here e rest ticks = slice_of-item here (Do (Edge e)) rest (suc ticks)

pub while-spent : (here : Here) (w : TypedWhile) (rest : List Item) → slice_of here (record { agenda = Do (While w) ∷ rest }) 0 ≡ Ends Spent nothing_left
while-spent here w rest = slice_of-item here (Do (While w)) rest 0 ∙ take_stmt-while here w 0 (behind here (Do (While w)) rest)

pub while-begun : (here : Here) (w : TypedWhile) (rest : List Item) (ticks : ℕ) → slice_of here (record { agenda = Do (While w) ∷ rest }) (suc ticks) ≡ slice_of here (record { agenda = Again w.line w.condition w.body ∷ rest }) ticks
while-begun here w rest ticks =
    slice_of-item here (Do (While w)) rest (suc ticks)
    ∙ (take_stmt-while here w (suc ticks) (behind here (Do (While w)) rest)
    ∙ ap (λ items. slice here items ticks) (inside-while w rest))

pub test-spent : (here : Here) (line : ℕ) (condition : TypedExpr) (body : TypedStmt) (rest : List Item) → slice_of here (record { agenda = Again line condition body ∷ rest }) 0 ≡ Ends Spent nothing_left
test-spent here line condition body rest = slice_of-item here (Again line condition body) rest 0

pub test-done : (here : Here) (line : ℕ) (condition : TypedExpr) (body : TypedStmt) (rest : List Item) (ticks : ℕ) → slice_of here (record { agenda = Again line condition body ∷ rest }) (suc ticks) ≡ value condition ticks (λ bits left. slice_of here (record { agenda = if is_true bits then Do body ∷ Again line condition body ∷ rest else rest }) left)
test-done here line condition body rest ticks =
    slice_of-item here (Again line condition body) rest (suc ticks)
    ∙ ap (value condition ticks) (λ i bits left. where_to (is_true bits) left i)
  where
    where_to : (b : Bool) (left : ℕ) → behind here (Again line condition body) rest (if b then Inside else After) left ≡ slice here (if b then Do body ∷ Again line condition body ∷ rest else rest) left
    where_to true left = refl
    where_to false left = refl
