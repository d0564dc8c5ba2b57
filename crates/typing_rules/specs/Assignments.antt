-- Steps and declared values: what may be assigned, and what a signal's name makes of an assignment.
use Rattle.std.specs.Prelude.{ℕ, not, ◌&&◌, Bool, true, false, if◌then◌else◌, List, [], ◌∷◌, Option, Some, None, Ok}
use Rattle.vera_ast.specs.Lines.{line_of}
use Rattle.vera_ast.specs.declared.tree.expressions.Expr.{Expr}
use Rattle.vera_ast.specs.declared.tree.expressions.Expr.TheVariants as x
use Rattle.vera_ast.specs.declared.tree.statements.Change.{Change}
use Rattle.vera_ast.specs.declared.tree.statements.Change.TheVariants as change
use Rattle.vera_ast.specs.declared.tree.statements.DriveOperator.TheVariants.{Assign as Plain}
use Rattle.vera_ast.specs.declared.tree.statements.Step.{Step}
use Rattle.vera_ast.specs.declared.typed.expr.TypedExpr.{TypedExpr}
use Rattle.vera_ast.specs.declared.typed.place.TypedPlace.{TypedPlace}
use Rattle.vera_ast.specs.declared.typed.stmt.InitialValue.{InitialValue}
use Rattle.vera_ast.specs.declared.typed.stmt.InitialValue.TheVariants as initial
use Rattle.vera_ast.specs.declared.typed.stmt.TypedChange.{TypedChange}
use Rattle.vera_ast.specs.declared.typed.stmt.TypedChange.TheVariants as made
use Rattle.vera_ast.specs.declared.typed.stmt.TypedStmt.{TypedStmt}
use Rattle.vera_ast.specs.declared.typed.stmt.TypedStmt.TheVariants as stmt
use Rattle.vera_ast.specs.declared.typed.types.ValueType.{ValueType}
use Rattle.vera_ast.specs.declared.typed.types.ValueType.TheVariants as t
use Rattle.vera_ast.specs.declared.typed.types.VariableType.{VariableType}
use Rattle.vera_ast.specs.declared.typed.types.VariableType.TheVariants as variable
use Rattle.vera_ast.specs.declared.typed.types.VectorType.TheVariants.{Integer}
use Rattle.typing_rules.specs.Checked.{Checked, ◌>>=◌, ◌>>◌, refuse, keeps, known, wrong_type, not_assignable}
use Rattle.typing_rules.specs.Expressions.{walk, expr}
use Rattle.typing_rules.specs.Heads.{number, value_of, whole_type, cut_type, signal_type, is_event, place, part_place}
use Rattle.typing_rules.specs.Types.{is_vector, fits}
use Rattle.typing_rules.specs.declared.context.Context.{Context}
use Rattle.typing_rules.specs.declared.head.Head.{Head}
use Rattle.typing_rules.specs.declared.head.Head.TheVariants as h
use Rattle.typing_rules.specs.declared.head.Right.{Right}
use Rattle.typing_rules.specs.declared.head.Right.TheVariants as right
use Rattle.typing_rules.specs.declared.head.Stand.TheVariants as stand
use Rattle.typing_rules.specs.Drives.{drive}
use Rattle.typing_rules.specs.Posts.{is_plain_vector}

-- ---- the whole right side of an assignment: a value, or a call that may wait

-- `new` alone is refused for its type at its statement or variable, like any right side
abbrev pub taken : ℕ → ℕ → Head → Checked Right
taken statement line (h.Waits call) = Ok (right.Waits call)
taken statement line h.New = refuse wrong_type statement
taken statement line head = value_of line head >>= (λ v. Ok (right.Value v))

-- that of the statement or variable of a line
unfoldable pub right_side : Context → ℕ → Expr → Checked Right
right_side c line e = walk c stand.Assigned e >>= taken line (line_of e)

abbrev pub right_type : Right → ValueType
right_type (right.Value v) = v.of
right_type (right.Waits call) = t.Vector Integer

abbrev pub right_fits : List (Option ℕ) → Right → ValueType → Bool
right_fits parents r target = fits parents (right_type r) target

abbrev pub assigning : Right → TypedChange
assigning (right.Waits call) = made.Wait call
assigning (right.Value v) = made.Assign v.expr

-- ---- the left side

-- whether its type passes a test. A name that is no value at all has no type, and is refused as what can't be assigned;
-- an array, a built-in name and a mode word are refused for their type.
abbrev pub left_passes : (ValueType → Bool) → Head → Bool
left_passes test (h.Number n) = test (number n).of
left_passes test (h.Str s) = test t.Str
left_passes test (h.Value v) = test v.of
left_passes test (h.Whole w) = test (whole_type w)
left_passes test (h.Part w c) = test (t.Vector (cut_type c))
left_passes test (h.Signal s d) = test (signal_type s)
left_passes test (h.SignalPart s d c) = test (t.Vector (cut_type c))
left_passes test (h.Named means) = true
left_passes test _ = false

-- a variable, field or element that is no event, or bits of it
abbrev pub left_place : Head → Option TypedPlace
left_place (h.Whole w) = if is_event (whole_type w) then None else Some (place w)
left_place (h.Part w c) = Some (part_place w c)
left_place _ = None

abbrev pub stepped : ℕ → Head → TypedChange → Checked TypedStmt
stepped line target change = known not_assignable line (left_place target) >>= (λ p. Ok (stmt.Step (record { line = line; target = p; change = change })))

-- ---- step = post ( "=" | "+=" | "-=" ) expr | post ( "++" | "--" )

-- an assignment, or a drive where the left side names a signal
unfoldable pub assign : Context → ℕ → Head → Expr → Checked TypedStmt
assign c line (h.Signal s d) e = do
  v ← expr c e
  drive c line None s d Plain v
assign c line target e = do
  r ← right_side c line e
  keeps line ((wrong_type, not (left_passes (right_fits c.outline.classes r) target)) ∷ [])
  stepped line target (assigning r)

-- `+=` and `-=`: vectors alone
unfoldable pub add : Context → ℕ → Head → (TypedExpr → TypedChange) → Expr → Checked TypedStmt
add c line target change e = do
  v ← expr c e
  keeps line ((wrong_type, not (left_passes is_plain_vector target && is_vector v.of)) ∷ [])
  stepped line target (change v.expr)

unfoldable pub count : ℕ → Head → TypedChange → Checked TypedStmt
count line target change = do
  keeps line ((wrong_type, not (left_passes is_plain_vector target)) ∷ [])
  stepped line target change

abbrev pub changed : Context → ℕ → Head → Change → Checked TypedStmt
changed c line target (change.Assign e) = assign c line target e
changed c line target (change.Add e) = add c line target made.Add e
changed c line target (change.Subtract e) = add c line target made.Subtract e
changed c line target change.Increment = count line target made.Increment
changed c line target change.Decrement = count line target made.Decrement

unfoldable pub step : Context → Step → Checked TypedStmt
step c s = do
  target ← walk c stand.Place (x.Postfix s.target)
  changed c s.line target s.change

-- ---- the value of a declared variable

abbrev pub fits_declared : List (Option ℕ) → Right → VariableType → Bool
fits_declared parents r (variable.Value of) = right_fits parents r of
fits_declared parents r (variable.Array of length) = false

abbrev pub is_event_variable : VariableType → Bool
is_event_variable (variable.Value of) = is_event of
is_event_variable (variable.Array of length) = false

abbrev pub initial_value : Right → InitialValue
initial_value (right.Waits call) = initial.Wait call
initial_value (right.Value v) = initial.Value v.expr

unfoldable pub declared_value : Context → ℕ → VariableType → Option Expr → Checked (Option InitialValue)
declared_value c line of None = Ok None
declared_value c line of (Some e) = do
  r ← right_side c line e
  keeps line ((wrong_type, not (fits_declared c.outline.classes r of)) ∷ (not_assignable, is_event_variable of) ∷ [])
  Ok (Some (initial_value r))
