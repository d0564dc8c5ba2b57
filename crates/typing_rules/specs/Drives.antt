-- Drives of signals, and their delays.
use Rattle.std.specs.Prelude.{ℕ, not, ◌||◌, Bool, false, [], ◌∷◌, Option, Some, None, Ok}
use Rattle.vera_ast.specs.declared.tree.expressions.Expr.TheVariants as x
use Rattle.vera_ast.specs.declared.tree.interfaces.Direction.{Direction}
use Rattle.vera_ast.specs.declared.tree.statements.Delay.{Delay}
use Rattle.vera_ast.specs.declared.tree.statements.DelayForm.TheVariants as delay_form
use Rattle.vera_ast.specs.declared.tree.statements.DelayForm.{DelayForm}
use Rattle.vera_ast.specs.declared.tree.statements.Drive.{Drive}
use Rattle.vera_ast.specs.declared.tree.statements.DriveOperator.{DriveOperator}
use Rattle.vera_ast.specs.declared.typed.expr.TypedExpr.{TypedExpr}
use Rattle.vera_ast.specs.declared.typed.names.TypedSignalName.{TypedSignalName}
use Rattle.vera_ast.specs.declared.typed.stmt.TypedStmt.TheVariants as stmt
use Rattle.vera_ast.specs.declared.typed.stmt.TypedStmt.{TypedStmt}
use Rattle.typing_rules.specs.Calls.{is_function}
use Rattle.typing_rules.specs.Checked.{Checked, ◌>>=◌, ◌>>◌, refuse, keeps, perhaps, wrong_type, not_here, wrong_signal}
use Rattle.typing_rules.specs.Expressions.{walk, expr}
use Rattle.typing_rules.specs.Heads.{number, value_of, is_output, expr_or_missing}
use Rattle.typing_rules.specs.Posts.{name}
use Rattle.typing_rules.specs.Types.{is_vector}
use Rattle.typing_rules.specs.declared.context.Context.{Context}
use Rattle.typing_rules.specs.declared.head.Head.TheVariants as h
use Rattle.typing_rules.specs.declared.head.Head.{Head}
use Rattle.typing_rules.specs.declared.head.Stand.TheVariants as stand
use Rattle.typing_rules.specs.declared.head.Typed.{Typed}

-- ---- drives

abbrev pub is_wrong_delay : Option Typed → Bool
is_wrong_delay None = false
is_wrong_delay (Some v) = not (is_vector v.of)

-- a drive of this signal
unfoldable pub drive : Context → ℕ → Option Typed → TypedSignalName → Direction → DriveOperator → Typed → Checked TypedStmt
drive c line delay s d operator v = do
  keeps line ((wrong_type, is_wrong_delay delay || not (is_vector v.of)) ∷ (not_here, is_function c.body) ∷ (wrong_signal, not (is_output d)) ∷ [])
  Ok (stmt.Drive (record { line = line; delay = expr_or_missing delay; target = s; operator = operator; value = v.expr }))

-- ---- delay = number | name | "(" expr ")"

abbrev pub delay_of_form : Context → ℕ → DelayForm → Checked Typed
delay_of_form c line (delay_form.Number n) = Ok (number n)
delay_of_form c line (delay_form.Name word) = name c false line word >>= value_of line
delay_of_form c line (delay_form.Parentheses e) = expr c e

unfoldable pub delay : Context → Delay → Checked Typed
delay c d = delay_of_form c d.line d.form

-- ---- [ "@" delay ] post ( "=" | "<=" ) expr ";"

abbrev pub driven : Context → Drive → Option Typed → Head → Typed → Checked TypedStmt
driven c d time (h.Signal signal direction) v = drive c d.line time signal direction d.operator v
driven c d time _ v = refuse wrong_type d.line

unfoldable pub drive_stmt : Context → Drive → Checked TypedStmt
drive_stmt c d = do
  time ← perhaps (delay c) d.delay
  target ← walk c stand.Place (x.Postfix d.signal)
  v ← expr c d.value
  driven c d time target v
