-- Edges and expects.
use Rattle.std.specs.Prelude.{ℕ, not, ◌&&◌, Bool, true, false, [], ◌∷◌, Option, Some, None, option_map, Ok}
use Rattle.vera_ast.specs.declared.tree.expressions.Expr.TheVariants as x
use Rattle.vera_ast.specs.declared.tree.statements.Edge.{Edge}
use Rattle.vera_ast.specs.declared.tree.statements.EdgeClock.{EdgeClock}
use Rattle.vera_ast.specs.declared.tree.statements.EdgeClock.TheVariants as clock
use Rattle.vera_ast.specs.declared.tree.statements.Expect.{Expect}
use Rattle.vera_ast.specs.declared.tree.statements.Term.{Term}
use Rattle.vera_ast.specs.declared.tree.statements.Window.{Window}
use Rattle.vera_ast.specs.declared.typed.interface.TypedSignalKind.{TypedSignalKind}
use Rattle.vera_ast.specs.declared.typed.interface.TypedSignalKind.TheVariants as kind
use Rattle.vera_ast.specs.declared.typed.expr.TypedExpr.{TypedExpr}
use Rattle.vera_ast.specs.declared.typed.stmt.TypedStmt.{TypedStmt}
use Rattle.vera_ast.specs.declared.typed.stmt.TypedStmt.TheVariants as typed
use Rattle.vera_ast.specs.declared.typed.stmt.TypedTerm.{TypedTerm}
use Rattle.vera_ast.specs.declared.typed.stmt.TypedWindow.{TypedWindow}
use Rattle.typing_rules.specs.Calls.{is_function}
use Rattle.typing_rules.specs.Checked.{Checked, ◌>>=◌, ◌>>◌, refuse, keeps, known, each, perhaps, unknown_name, wrong_type, not_here, wrong_signal}
use Rattle.typing_rules.specs.Expressions.{walk, expr}
use Rattle.typing_rules.specs.Heads.{is_output, expr_or_missing}
use Rattle.typing_rules.specs.Interfaces.{is_clock_kind}
use Rattle.typing_rules.specs.Scopes.{Name, meaning_of}
use Rattle.typing_rules.specs.Types.{is_vector}
use Rattle.typing_rules.specs.declared.context.Context.{Context}
use Rattle.typing_rules.specs.declared.head.Head.{Head}
use Rattle.typing_rules.specs.declared.head.Head.TheVariants as h
use Rattle.typing_rules.specs.declared.head.Stand.TheVariants as stand
use Rattle.typing_rules.specs.declared.head.Typed.{Typed}
use Rattle.typing_rules.specs.declared.names.KnownSignal.{KnownSignal}
use Rattle.typing_rules.specs.declared.names.Meaning.{Meaning}
use Rattle.typing_rules.specs.declared.names.Meaning.TheVariants as means
use Rattle.typing_rules.specs.Posts.{signal_of}
use Rattle.typing_rules.specs.Drives.{delay}

-- ---- edge = "@" "(" "posedge" ( "CLOCK" | name "." name ) ")"

abbrev pub signal_in : Context → ℕ → Meaning → Name → Checked KnownSignal
signal_in c line (means.Interface n) word = known unknown_name line (signal_of c n word)
signal_in c line _ word = refuse wrong_type line

abbrev pub is_wrong_edge : Context → ℕ → EdgeClock → Checked Bool
is_wrong_edge c line clock.Clock = Ok false
is_wrong_edge c line (clock.Signal of word) = do
  meaning ← known unknown_name line (meaning_of c.scopes of)
  signal ← signal_in c line meaning word
  Ok (not (is_clock_kind signal.kind))

unfoldable pub edge_stmt : Context → Edge → Checked TypedStmt
edge_stmt c e = do
  is_wrong ← is_wrong_edge c e.line e.clock
  keeps e.line ((not_here, is_function c.body) ∷ (wrong_signal, is_wrong) ∷ [])
  Ok (typed.Edge (record { line = e.line; negative = e.negative }))

-- ---- [ ( "@" | "@@" | "@@@" ) delay [ "," delay ] ] [ "soft" ] term { "," term } [ "soft" ] ";"

abbrev pub is_vector_or_missing : Option Typed → Bool
is_vector_or_missing None = true
is_vector_or_missing (Some v) = is_vector v.of

-- a window, and whether its delays are vectors, which is a rule of its statement
abbrev pub Timed : Type 0
Timed = TypedWindow × Bool

unfoldable pub window : Context → Window → Checked Timed
window c w = do
  first ← delay c w.first
  second ← perhaps (delay c) w.second
  Ok (record { kind = w.kind; first = first.expr; second = expr_or_missing second }, is_vector first.of && is_vector_or_missing second)

abbrev pub is_wrong_window : Option Timed → Bool
is_wrong_window None = false
is_wrong_window (Some w) = not w.1

-- term = post ( "==" | "!=" ) expr: a whole input signal, which isn't read here
abbrev pub expected : Term → Head → Typed → Checked TypedTerm
expected t (h.Signal signal direction) v = do
  keeps t.line ((wrong_type, not (is_vector v.of)) ∷ (wrong_signal, is_output direction) ∷ [])
  Ok (record { line = t.line; signal = signal; operator = t.operator; value = v.expr })
expected t _ v = refuse wrong_type t.line

unfoldable pub term : Context → Term → Checked TypedTerm
term c t = do
  signal ← walk c stand.Place (x.Postfix t.signal)
  v ← expr c t.value
  expected t signal v

unfoldable pub expect_stmt : Context → Expect → Checked TypedStmt
expect_stmt c e = do
  w ← perhaps (window c) e.window
  terms ← each (term c) e.terms
  keeps e.line ((wrong_type, is_wrong_window w) ∷ (not_here, is_function c.body) ∷ [])
  Ok (typed.Expect (record { line = e.line; window = option_map (λ timed. timed.0) w; soft_before = e.soft_before; terms = terms; soft_after = e.soft_after }))
