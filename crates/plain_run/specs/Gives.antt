-- What the evaluator finds out about an expression, and about a step.
use Rattle.std.specs.Prelude.{◌≡◌, ℕ, Bool, List}
use Rattle.four_state.specs.declared.bit.Bit.{Bit}
use Rattle.store_api.specs.Places.{Contents}
use Rattle.slice_core.specs.Tree.{Tree, Effect}
use Rattle.slice_core.specs.Walks.{walked_from}
use Rattle.vera_ast.specs.declared.typed.expr.TypedExpr.{TypedExpr}
use Rattle.vera_ast.specs.declared.typed.place.TypedPlace.{TypedPlace}
use Rattle.vera_ast.specs.declared.typed.stmt.TypedChange.{TypedChange}
use Rattle.vera_meaning.specs.Rests.{Rest}
use Rattle.vera_meaning.specs.Operators.{is_true}
use Rattle.vera_meaning.specs.Expressions.{value, Next}
use Rattle.vera_meaning.specs.Statements.{changed}

-- In these contents the expression gives these bits: whatever follows it goes on with them.
abbrev pub Gives : TypedExpr → Contents → List Bit → Type 0
Gives e c bits = (ticks : ℕ) (next : Next) (es : List Effect) → walked_from (value e ticks next) c es ≡ walked_from (next bits ticks) c es

-- In these contents the condition holds or not.
abbrev pub HoldsAs : TypedExpr → Contents → Bool → Type 0
HoldsAs e c answer = (bits : List Bit) × Gives e c bits × (is_true bits ≡ answer)

-- In the first contents the change of the place leaves the second: whatever follows it goes on in them.
abbrev pub Changes : TypedPlace → TypedChange → Contents → Contents → Type 0
Changes target change c d = (ticks : ℕ) (next : ℕ → Tree Rest) (es : List Effect) → walked_from (changed target change ticks next) c es ≡ walked_from (next ticks) d es
