-- What statements are made of as it is read: each production of Parts again, with the codes that decide.
use Rattle.std.specs.Prelude.{ℕ, false, [], ◌∷◌}
use Rattle.grammar_laws.specs.Readers.{Parser, pure, ◌>>=◌, ◌>>◌}
use Rattle.vera_ast.specs.declared.codes.TheConstants as code
use Rattle.vera_ast.specs.declared.token.Token.{Token}
use Rattle.vera_ast.specs.declared.tree.expressions.Expr.{Expr}
use Rattle.vera_ast.specs.declared.tree.expressions.Postfix.{Postfix}
use Rattle.vera_ast.specs.declared.tree.statements.Change.{Change}
use Rattle.vera_ast.specs.declared.tree.statements.Change.TheVariants.{Assign, Add, Subtract, Increment, Decrement}
use Rattle.vera_ast.specs.declared.tree.statements.Delay.{Delay}
use Rattle.vera_ast.specs.declared.tree.statements.DelayForm.TheVariants.{Number, Name, Parentheses}
use Rattle.vera_ast.specs.declared.tree.statements.Edge.{Edge}
use Rattle.vera_ast.specs.declared.tree.statements.EdgeClock.{EdgeClock}
use Rattle.vera_ast.specs.declared.tree.statements.EdgeClock.TheVariants.{Clock, Signal}
use Rattle.vera_ast.specs.declared.tree.statements.Step.{Step}
use Rattle.vera_ast.specs.declared.tree.statements.Term.{Term}
use Rattle.vera_ast.specs.declared.tree.statements.TermOperator.TheVariants.{Equal, NotEqual}
use Rattle.vera_ast.specs.declared.tree.statements.WindowKind.{WindowKind}
use Rattle.vera_ast.specs.declared.tree.statements.WindowKind.TheVariants.{Simple, Full, Restricted}
use Rattle.parse_cursor.specs.TokenReading.{either, word, sign, name, number}
use Rattle.parse_exprs.specs.ExpressionReading as e
use Rattle.parse_stmts.specs.StatementSets.{first_plain_delay}

unfoldable pub at : Parser Token (ℕ × WindowKind)
at = sign ((code.AT, Simple) ∷ [])

unfoldable pub other_at : Parser Token (ℕ × WindowKind)
other_at = sign ((code.AT_AT, Full) ∷ (code.AT_AT_AT, Restricted) ∷ [])

unfoldable pub edge_clock : Parser Token EdgeClock
edge_clock = either (code.CLOCK ∷ []) (do word code.CLOCK; pure Clock) (do interface ← name; word code.DOT; signal ← name; pure (Signal interface.text signal.text))

unfoldable pub edge_rest : ℕ → Parser Token Edge
edge_rest line = do
  word code.POSEDGE
  clock ← edge_clock
  word code.RIGHT_PARENTHESIS
  pure (record { line = line; negative = false; clock = clock })

unfoldable pub edge : Parser Token Edge
edge = do
  k ← at
  word code.LEFT_PARENTHESIS
  edge_rest k.0

unfoldable pub plain_delay : Parser Token Delay
plain_delay = either (code.NUMBER ∷ []) (do n ← number; pure (record { line = n.line; form = Number n.number })) (do n ← name; pure (record { line = n.line; form = Name n.text }))

unfoldable pub counted : Parser Token Change
counted = either (code.PLUS_PLUS ∷ []) (do word code.PLUS_PLUS; pure Increment) (do word code.MINUS_MINUS; pure Decrement)

module _ (expr : Parser Token Expr) where
  unfoldable pub delay_rest : ℕ → Parser Token Delay
  delay_rest line = do
    x ← expr
    word code.RIGHT_PARENTHESIS
    pure (record { line = line; form = Parentheses x })

  unfoldable pub delay : Parser Token Delay
  delay = either first_plain_delay plain_delay (do line ← word code.LEFT_PARENTHESIS; delay_rest line)

  unfoldable pub second_delay : Parser Token Delay
  second_delay = do word code.COMMA; delay

  unfoldable pub assigned : Parser Token Change
  assigned = do word code.EQUALS; y ← expr; pure (Assign y)

  unfoldable pub added : Parser Token Change
  added = do word code.PLUS_EQUALS; y ← expr; pure (Add y)

  unfoldable pub subtracted : Parser Token Change
  subtracted = do word code.MINUS_EQUALS; y ← expr; pure (Subtract y)

  unfoldable pub change : Parser Token Change
  change = either (code.EQUALS ∷ []) assigned
      (either (code.PLUS_EQUALS ∷ []) added
      (either (code.MINUS_EQUALS ∷ []) subtracted
      counted))

  unfoldable pub changed : Postfix → Parser Token Step
  changed x = do
    c ← change
    pure (record { line = x.line; target = x; change = c })

  unfoldable pub step : Parser Token Postfix → Parser Token Step
  step target = do
    x ← target
    changed x

  unfoldable pub compared : Postfix → Parser Token Term
  compared x = do
    o ← sign ((code.EQUAL, Equal) ∷ (code.NOT_EQUAL, NotEqual) ∷ [])
    y ← expr
    pure (record { line = x.line; signal = x; operator = o.1; value = y })

  unfoldable pub term : Parser Token Postfix → Parser Token Term
  term signal = do
    x ← signal
    compared x

-- postfix expressions at the start of a statement and elsewhere, where so many levels are left

abbrev pub post_at : ℕ → Parser Token Postfix
post_at n = e.post (e.expr n) (e.unary n)

abbrev pub free_at : ℕ → Parser Token Postfix
free_at n = e.free (e.expr n) (e.unary n)
