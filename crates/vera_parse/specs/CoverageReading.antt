-- The readers of Coverage.
use Rattle.std.specs.Prelude.{ℕ, List, [], ◌∷◌}
use Rattle.grammar_laws.specs.Readers.{Parser, pure, ◌>>=◌, ◌>>◌, ◌<$>◌}
use Rattle.vera_ast.specs.Lines.{line_of}
use Rattle.vera_ast.specs.declared.codes.TheConstants as code
use Rattle.vera_ast.specs.declared.token.Token.{Token}
use Rattle.vera_ast.specs.declared.tree.coverage.Bin.{Bin}
use Rattle.vera_ast.specs.declared.tree.coverage.BinKind.{BinKind}
use Rattle.vera_ast.specs.declared.tree.coverage.BinKind.TheVariants.{State, BadState, Transition, BadTransition}
use Rattle.vera_ast.specs.declared.tree.coverage.BinValue.{BinValue}
use Rattle.vera_ast.specs.declared.tree.coverage.CoverageGroup.{CoverageGroup}
use Rattle.vera_ast.specs.declared.tree.coverage.GroupEvent.{GroupEvent}
use Rattle.vera_ast.specs.declared.tree.coverage.GroupEvent.TheVariants as forms
use Rattle.vera_ast.specs.declared.tree.coverage.Sample.{Sample}
use Rattle.vera_ast.specs.declared.tree.expressions.Expr.{Expr}
use Rattle.vera_ast.specs.declared.tree.statements.Edge.{Edge}
use Rattle.parse_cursor.specs.TokenReading.{word, sign, either, maybe}
use Rattle.parse_cursor.specs.ListReading.{title, some, after, listed}

unfoldable pub state_word : Parser Token (ℕ × BinKind)
state_word = sign ((code.STATE, State) ∷ (code.BAD_STATE, BadState) ∷ [])

unfoldable pub trans_word : Parser Token (ℕ × BinKind)
trans_word = sign ((code.TRANS, Transition) ∷ (code.BAD_TRANS, BadTransition) ∷ [])

unfoldable pub sync_event : Parser Token GroupEvent
sync_event = do
  line ← word code.SYNC
  word code.LEFT_PARENTHESIS
  word code.ANY_MODE
  word code.COMMA
  name ← title
  word code.RIGHT_PARENTHESIS
  pure (forms.Sync (record { line = line; name = name }))

module _ (expr : Parser Token Expr) where
  unfoldable pub val : Parser Token BinValue
  val = do
    first ← expr
    last ← maybe (code.COLON ∷ []) (after code.COLON expr)
    pure (record { line = line_of first; first = first; last = last })

  unfoldable pub state_bin : Parser Token Bin
  state_bin = do
    kind ← state_word
    name ← title
    word code.LEFT_PARENTHESIS
    values ← listed code.COMMA val
    word code.RIGHT_PARENTHESIS
    word code.SEMICOLON
    pure (record { line = kind.0; kind = kind.1; name = name; values = values })

  unfoldable pub steps : Parser Token (List BinValue)
  steps = do
    first ← val
    word code.ARROW
    more ← listed code.ARROW val
    pure (first ∷ more)

  unfoldable pub trans_bin : Parser Token Bin
  trans_bin = do
    kind ← trans_word
    name ← title
    word code.LEFT_PARENTHESIS
    values ← steps
    word code.RIGHT_PARENTHESIS
    word code.SEMICOLON
    pure (record { line = kind.0; kind = kind.1; name = name; values = values })

  unfoldable pub bin : Parser Token Bin
  bin = either (code.STATE ∷ code.BAD_STATE ∷ []) state_bin trans_bin

  unfoldable pub samp : Parser Token Sample
  samp = do
    line ← word code.SAMPLE
    name ← title
    signal ← maybe (code.DOT ∷ []) (after code.DOT title)
    word code.LEFT_BRACE
    bins ← some (code.STATE ∷ code.BAD_STATE ∷ code.TRANS ∷ code.BAD_TRANS ∷ []) bin
    word code.RIGHT_BRACE
    pure (record { line = line; name = name; signal = signal; bins = bins })

module _ (expr : Parser Token Expr) (edge : Parser Token Edge) where
  unfoldable pub event : Parser Token GroupEvent
  event = either (code.AT ∷ []) (forms.Edge <$> edge) sync_event

  unfoldable pub group : Parser Token CoverageGroup
  group = do
    line ← word code.COVERAGE_GROUP
    name ← title
    word code.LEFT_BRACE
    word code.SAMPLE_EVENT
    word code.EQUALS
    event ← event
    word code.SEMICOLON
    samples ← some (code.SAMPLE ∷ []) (samp expr)
    word code.RIGHT_BRACE
    pure (record { line = line; name = name; event = event; samples = samples })
