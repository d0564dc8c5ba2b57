-- The constructs in an interface that aren't built yet: the lines of their first tokens, in text order. The bounds of a
-- signal's range are expressions as any other. A kind whose skew is a based literal isn't built; every other kind is, and
-- so are directions and names.
use Rattle.std.specs.Prelude.{ℕ, List, [], ◌++◌, Option, Some, None}
use Rattle.vera_ast.specs.declared.tree.declarations.Range.{Range}
use Rattle.vera_ast.specs.declared.tree.interfaces.Interface.{Interface}
use Rattle.vera_ast.specs.declared.tree.interfaces.Signal.{Signal}
use Rattle.vera_ast.specs.declared.tree.interfaces.SignalForm.{SignalForm}
use Rattle.vera_ast.specs.declared.tree.interfaces.SignalForm.TheVariants.{Clock, Timed}
use Rattle.vera_ast.specs.declared.tree.interfaces.SignalKind.{SignalKind}
use Rattle.vera_ast.specs.declared.tree.interfaces.Skew.{Skew}
use Rattle.not_built.specs.Expressions.{expr_lines, number_lines}
use Rattle.not_built.specs.Lines.{each}

-- "[" expr ":" expr "]"
unfoldable pub range_lines : Range → List ℕ
range_lines r = expr_lines r.high ++ expr_lines r.low

-- [ range ]
abbrev pub optional_lines : Option Range → List ℕ
optional_lines None = []
optional_lines (Some r) = range_lines r

-- [ "#" [ "-" ] number ], in a kind that begins on a line
abbrev pub skew_lines : ℕ → Option Skew → List ℕ
skew_lines line None = []
skew_lines line (Some s) = number_lines line s.amount

abbrev pub form_lines : ℕ → SignalForm → List ℕ
form_lines line Clock = []
form_lines line (Timed time skew) = skew_lines line skew

unfoldable pub kind_lines : SignalKind → List ℕ
kind_lines k = form_lines k.line k.form

unfoldable pub signal_lines : Signal → List ℕ
signal_lines s = optional_lines s.range ++ kind_lines s.kind

abbrev pub interface_lines : Interface → List ℕ
interface_lines i = each signal_lines i.signals
