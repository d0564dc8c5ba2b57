-- What statements are made of: edges, delays, windows, steps and terms, one definition for each production. They are open over the language of
-- expressions. A part that goes on after a postfix expression or after a `(` is a definition of its own.
use Rattle.std.specs.Prelude.{ℕ, false, [], ◌∷◌, Option}
use Rattle.grammar_laws.specs.Languages.{Lang, pure, ◌>>=◌, ◌>>◌, ◌<|>◌, maybe}
use Rattle.vera_ast.specs.declared.codes.TheConstants as code
use Rattle.vera_ast.specs.declared.token.Token.{Token}
use Rattle.vera_ast.specs.declared.tree.expressions.Expr.{Expr}
use Rattle.vera_ast.specs.declared.tree.expressions.Postfix.{Postfix}
use Rattle.vera_ast.specs.declared.tree.statements.Change.{Change}
use Rattle.vera_ast.specs.declared.tree.statements.Change.TheVariants.{Assign, Add, Subtract, Increment, Decrement}
use Rattle.vera_ast.specs.declared.tree.statements.Delay.{Delay}
use Rattle.vera_ast.specs.declared.tree.statements.DelayForm.TheVariants.{Number, Name, Parentheses}
use Rattle.vera_ast.specs.declared.tree.statements.Edge.{Edge}
use Rattle.vera_ast.specs.declared.tree.statements.EdgeClock.{EdgeClock}
use Rattle.vera_ast.specs.declared.tree.statements.EdgeClock.TheVariants.{Clock, Signal}
use Rattle.vera_ast.specs.declared.tree.statements.Step.{Step}
use Rattle.vera_ast.specs.declared.tree.statements.Term.{Term}
use Rattle.vera_ast.specs.declared.tree.statements.TermOperator.TheVariants.{Equal, NotEqual}
use Rattle.vera_ast.specs.declared.tree.statements.Window.{Window}
use Rattle.vera_ast.specs.declared.tree.statements.WindowKind.{WindowKind}
use Rattle.vera_ast.specs.declared.tree.statements.WindowKind.TheVariants.{Simple, Full, Restricted}
use Rattle.parse_cursor.specs.Tokens.{word, sign, name, number}

-- "@", by its line and as it begins a window
unfoldable pub at : Lang Token (ℕ × WindowKind)
at = sign ((code.AT, Simple) ∷ [])

-- "@@" | "@@@"
unfoldable pub other_at : Lang Token (ℕ × WindowKind)
other_at = sign ((code.AT_AT, Full) ∷ (code.AT_AT_AT, Restricted) ∷ [])

-- "CLOCK" | name "." name
unfoldable pub edge_clock : Lang Token EdgeClock
edge_clock = (do word code.CLOCK; pure Clock) <|> (do interface ← name; word code.DOT; signal ← name; pure (Signal interface.text signal.text))

-- "posedge" ( "CLOCK" | name "." name ) ")" after an `@` of this line and a `(`
unfoldable pub edge_rest : ℕ → Lang Token Edge
edge_rest line = do
  word code.POSEDGE
  clock ← edge_clock
  word code.RIGHT_PARENTHESIS
  pure (record { line = line; negative = false; clock = clock })

-- edge = "@" "(" "posedge" ( "CLOCK" | name "." name ) ")"
unfoldable pub edge : Lang Token Edge
edge = do
  k ← at
  word code.LEFT_PARENTHESIS
  edge_rest k.0

-- number | name
unfoldable pub plain_delay : Lang Token Delay
plain_delay = (do n ← number; pure (record { line = n.line; form = Number n.number }))
    <|> (do n ← name; pure (record { line = n.line; form = Name n.text }))

abbrev pub window_of : ℕ × WindowKind → Delay → Option Delay → Window
window_of k first second = record { line = k.0; kind = k.1; first = first; second = second }

module _ (expr : Lang Token Expr) where
  -- expr ")" after a `(` of this line
  unfoldable pub delay_rest : ℕ → Lang Token Delay
  delay_rest line = do
    x ← expr
    word code.RIGHT_PARENTHESIS
    pure (record { line = line; form = Parentheses x })

  -- delay = number | name | "(" expr ")"
  unfoldable pub delay : Lang Token Delay
  delay = plain_delay <|> (do line ← word code.LEFT_PARENTHESIS; delay_rest line)

  -- "," delay
  unfoldable pub second_delay : Lang Token Delay
  second_delay = do word code.COMMA; delay

  -- ( "@" | "@@" | "@@@" ) delay [ "," delay ]
  unfoldable pub window : Lang Token Window
  window = do
    k ← at <|> other_at
    first ← delay
    second ← maybe second_delay
    pure (window_of k first second)

  -- ( "=" | "+=" | "-=" ) expr | "++" | "--"
  unfoldable pub change : Lang Token Change
  change = (do word code.EQUALS; y ← expr; pure (Assign y))
      <|> (do word code.PLUS_EQUALS; y ← expr; pure (Add y))
      <|> (do word code.MINUS_EQUALS; y ← expr; pure (Subtract y))
      <|> (do word code.PLUS_PLUS; pure Increment)
      <|> (do word code.MINUS_MINUS; pure Decrement)

  -- a change of this target
  unfoldable pub changed : Postfix → Lang Token Step
  changed x = do
    c ← change
    pure (record { line = x.line; target = x; change = c })

  -- step = post ( "=" | "+=" | "-=" ) expr | post ( "++" | "--" )
  unfoldable pub step : Lang Token Postfix → Lang Token Step
  step target = do
    x ← target
    changed x

  -- ( "==" | "!=" ) expr after this signal
  unfoldable pub compared : Postfix → Lang Token Term
  compared x = do
    o ← sign ((code.EQUAL, Equal) ∷ (code.NOT_EQUAL, NotEqual) ∷ [])
    y ← expr
    pure (record { line = x.line; signal = x; operator = o.1; value = y })

  -- term = post ( "==" | "!=" ) expr
  unfoldable pub term : Lang Token Postfix → Lang Token Term
  term signal = do
    x ← signal
    compared x
