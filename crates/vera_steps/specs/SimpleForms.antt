-- Simple statements: lists of results, and the parts of their definitions, as the code has them.
use Rattle.std.specs.Prelude.{ℕ, not, [], ◌∷◌, Ok}
use Rattle.vera_ast.specs.declared.tree.expressions.Expr.{Expr}
use Rattle.vera_ast.specs.declared.typed.expr.TypedExpr.{TypedExpr}
use Rattle.vera_ast.specs.declared.typed.stmt.InitialValue.{InitialValue}
use Rattle.vera_ast.specs.declared.typed.types.VariableType.{VariableType}
use Rattle.typing_rules.specs.Assignments.{right_side, fits_declared, is_event_variable, initial_value}
use Rattle.typing_rules.specs.Checked.{Checked, ◌>>=◌, ◌>>◌, keeps, wrong_type, not_assignable}
use Rattle.typing_rules.specs.declared.context.Context.{Context}
use Rattle.typing_rules.specs.declared.head.Typed.{Typed}
use Rattle.typing_rules.specs.declared.names.Meaning.{Meaning}
use Rattle.typing_rules.specs.Scopes.{Name}
use Rattle.typing_rules.specs.Types.{is_vector}
use Rattle.typing_rules.specs.Waits.{signal_in}
use Rattle.vera_ast.specs.declared.typed.interface.TypedSignalKind.{TypedSignalKind}

-- ---- assignments

-- a value of a variable of this type
unfoldable pub value_declared : Context → ℕ → VariableType → Expr → Checked InitialValue
value_declared c line of e = do
  r ← right_side c line e
  keeps line ((wrong_type, not (fits_declared c.outline.classes r of)) ∷ (not_assignable, is_event_variable of) ∷ [])
  Ok (initial_value r)

-- ---- edges

-- the kind of a signal behind what a name means
abbrev pub kind_in : Context → ℕ → Meaning → Name → Checked TypedSignalKind
kind_in c line means word = signal_in c line means word >>= (λ s. Ok s.kind)

-- ---- labels of arms

-- a value that has to be a vector
abbrev pub label : ℕ → Typed → Checked TypedExpr
label line v = keeps line ((wrong_type, not (is_vector v.of)) ∷ []) >> Ok v.expr
