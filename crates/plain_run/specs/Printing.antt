-- What the evaluator finds out about the arguments of a printf.
use Rattle.std.specs.Prelude.{◌≡◌, ℕ, List, map}
use Rattle.store_api.specs.Places.{Contents}
use Rattle.slice_core.specs.Tree.{Tree, Effect}
use Rattle.slice_core.specs.Walks.{walked_from}
use Rattle.vera_ast.specs.declared.typed.expr.TypedExpr.{TypedExpr}
use Rattle.vera_meaning.specs.Rests.{Rest}
use Rattle.vera_meaning.specs.Formats.{Argument}
use Rattle.vera_meaning.specs.Expressions.{arguments}
use Rattle.plain_run.specs.declared.evaluate.expr.Typed.{Typed}

abbrev pub argument_of : Typed → Argument
argument_of t = record { of = t.of; bits = t.bits }

-- In these contents the expressions give these arguments: whatever follows them goes on with these.
abbrev pub GivesAll : List TypedExpr → Contents → List Typed → Type 0
GivesAll all c values =
    (ticks : ℕ) (next : List Argument → ℕ → Tree Rest) (es : List Effect) → walked_from (arguments all ticks next) c es ≡ walked_from (next (map argument_of values) ticks) c es
