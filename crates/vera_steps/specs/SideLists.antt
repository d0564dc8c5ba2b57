-- Left sides as the code has them: what the rule of types looks at, the place, and the signal.
use Rattle.std.specs.Prelude.{ℕ, not, ◌&&◌, Bool, true, false, List, [], ◌∷◌, Option, Some, None, Ok}
use Rattle.vera_ast.specs.declared.tree.expressions.Expr.{Expr}
use Rattle.vera_ast.specs.declared.tree.expressions.Expr.TheVariants as x
use Rattle.vera_ast.specs.declared.tree.expressions.Postfix.{Postfix}
use Rattle.vera_ast.specs.declared.tree.statements.Change.{Change}
use Rattle.vera_ast.specs.declared.tree.statements.Change.TheVariants as change
use Rattle.vera_ast.specs.declared.tree.statements.DriveOperator.TheVariants.{Assign as Plain}
use Rattle.vera_ast.specs.declared.typed.expr.TypedExpr.{TypedExpr}
use Rattle.vera_ast.specs.declared.typed.place.TypedPlace.{TypedPlace}
use Rattle.vera_ast.specs.declared.typed.stmt.TypedChange.{TypedChange}
use Rattle.vera_ast.specs.declared.typed.stmt.TypedChange.TheVariants as made
use Rattle.vera_ast.specs.declared.typed.stmt.TypedStmt.{TypedStmt}
use Rattle.vera_ast.specs.declared.typed.stmt.TypedStmt.TheVariants as stmt
use Rattle.vera_ast.specs.declared.typed.types.ValueType.{ValueType}
use Rattle.vera_ast.specs.declared.typed.types.ValueType.TheVariants as t
use Rattle.typing_rules.specs.Assignments.{right_side, right_fits, assigning, left_place}
use Rattle.typing_rules.specs.Checked.{Checked, ◌>>=◌, ◌>>◌, refuse, keeps, wrong_type, not_assignable}
use Rattle.typing_rules.specs.Drives.{drive}
use Rattle.typing_rules.specs.Expressions.{walk, expr}
use Rattle.typing_rules.specs.Heads.{number_type, whole_type, cut_type, signal_type}
use Rattle.typing_rules.specs.Posts.{is_plain_vector}
use Rattle.typing_rules.specs.Types.{is_vector}
use Rattle.typing_rules.specs.declared.context.Context.{Context}
use Rattle.typing_rules.specs.declared.head.Head.TheVariants as h
use Rattle.typing_rules.specs.declared.head.Head.{Head}
use Rattle.typing_rules.specs.declared.head.Right.{Right}
use Rattle.typing_rules.specs.declared.head.Stand.TheVariants as stand
use Rattle.vera_steps.specs.TargetLists.{target_of}
use Rattle.vera_steps.specs.declared.sides.Left.{Left}
use Rattle.vera_steps.specs.declared.sides.Left.TheVariants as left
use Rattle.vera_steps.specs.declared.sides.Side.{Side}
use Rattle.vera_steps.specs.declared.targets.Target.{Target}

-- ---- left sides

-- what the rule of types looks at
abbrev pub left_of : Head → Left
left_of (h.Number n) = left.Of (t.Vector (number_type n))
left_of (h.Str s) = left.Of t.Str
left_of (h.Value v) = left.Of v.of
left_of (h.Whole w) = left.Of (whole_type w)
left_of (h.Part w c) = left.Of (t.Vector (cut_type c))
left_of (h.Signal s d) = left.Of (signal_type s)
left_of (h.SignalPart s d c) = left.Of (t.Vector (cut_type c))
left_of (h.Named means) = left.NoValue
left_of _ = left.Wrong

-- what the rule of types says of it
abbrev pub passes : (ValueType → Bool) → Left → Bool
passes test (left.Of of) = test of
passes test left.NoValue = true
passes test left.Wrong = false

abbrev pub side_of : Head → Side
side_of head = record { left = left_of head; place = left_place head; target = target_of head }

-- that of a `post`
unfoldable pub walk_side : Context → Postfix → Checked Side
walk_side c p = walk c stand.Place (x.Postfix p) >>= (λ head. Ok (side_of head))

-- ---- steps of left sides

-- a change of a place, where there is one
abbrev pub placed : ℕ → Option TypedPlace → TypedChange → Checked TypedStmt
placed line None change = refuse not_assignable line
placed line (Some p) change = Ok (stmt.Step (record { line = line; target = p; change = change }))

-- an assignment of a right side, by the parents of the classes
unfoldable pub assign_right : List (Option ℕ) → ℕ → Side → Right → Checked TypedStmt
assign_right parents line s r = do
  keeps line ((wrong_type, not (passes (right_fits parents r) s.left)) ∷ [])
  placed line s.place (assigning r)

-- an assignment to what is no signal
unfoldable pub assign_value : Context → ℕ → Side → Expr → Checked TypedStmt
assign_value c line s e = do
  r ← right_side c line e
  assign_right c.outline.classes line s r

-- an assignment to a signal: a drive
unfoldable pub assign_signal : Context → ℕ → Target → Expr → Checked TypedStmt
assign_signal c line s e = do
  v ← expr c e
  drive c line None s.signal s.direction Plain v

abbrev pub assign_by : Context → ℕ → Side → Expr → Option Target → Checked TypedStmt
assign_by c line s e (Some signal) = assign_signal c line signal e
assign_by c line s e None = assign_value c line s e

abbrev pub assign_to : Context → ℕ → Side → Expr → Checked TypedStmt
assign_to c line s e = assign_by c line s e s.target

-- a change by a value of a type
unfoldable pub added : ℕ → Side → ValueType → TypedChange → Checked TypedStmt
added line s of change = do
  keeps line ((wrong_type, not (passes is_plain_vector s.left && is_vector of)) ∷ [])
  placed line s.place change

unfoldable pub add_to : Context → ℕ → Side → (TypedExpr → TypedChange) → Expr → Checked TypedStmt
add_to c line s change e = do
  v ← expr c e
  added line s v.of (change v.expr)

unfoldable pub count_at : ℕ → Side → TypedChange → Checked TypedStmt
count_at line s change = do
  keeps line ((wrong_type, not (passes is_plain_vector s.left)) ∷ [])
  placed line s.place change

abbrev pub change_at : Context → ℕ → Side → Change → Checked TypedStmt
change_at c line s (change.Assign e) = assign_to c line s e
change_at c line s (change.Add e) = add_to c line s made.Add e
change_at c line s (change.Subtract e) = add_to c line s made.Subtract e
change_at c line s change.Increment = count_at line s made.Increment
change_at c line s change.Decrement = count_at line s made.Decrement
