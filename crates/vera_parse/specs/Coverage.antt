-- Coverage groups, over the languages of expressions and edges.
use Rattle.std.specs.Prelude.{ℕ, List, [], ◌∷◌}
use Rattle.grammar_laws.specs.Languages.{Lang, pure, ◌>>=◌, ◌>>◌, ◌<$>◌, ◌<|>◌, maybe}
use Rattle.vera_ast.specs.Lines.{line_of}
use Rattle.vera_ast.specs.declared.codes.TheConstants as code
use Rattle.vera_ast.specs.declared.token.Token.{Token}
use Rattle.vera_ast.specs.declared.tree.coverage.Bin.{Bin}
use Rattle.vera_ast.specs.declared.tree.coverage.BinKind.{BinKind}
use Rattle.vera_ast.specs.declared.tree.coverage.BinKind.TheVariants.{State, BadState, Transition, BadTransition}
use Rattle.vera_ast.specs.declared.tree.coverage.BinValue.{BinValue}
use Rattle.vera_ast.specs.declared.tree.coverage.CoverageGroup.{CoverageGroup}
use Rattle.vera_ast.specs.declared.tree.coverage.GroupEvent.{GroupEvent}
use Rattle.vera_ast.specs.declared.tree.coverage.GroupEvent.TheVariants as forms
use Rattle.vera_ast.specs.declared.tree.coverage.Sample.{Sample}
use Rattle.vera_ast.specs.declared.tree.expressions.Expr.{Expr}
use Rattle.vera_ast.specs.declared.tree.statements.Edge.{Edge}
use Rattle.parse_cursor.specs.Tokens.{word, sign}
use Rattle.parse_cursor.specs.Lists.{title, some, after, listed}

-- "state" | "bad_state", with its line
unfoldable pub state_word : Lang Token (ℕ × BinKind)
state_word = sign ((code.STATE, State) ∷ (code.BAD_STATE, BadState) ∷ [])

-- "trans" | "bad_trans", with its line
unfoldable pub trans_word : Lang Token (ℕ × BinKind)
trans_word = sign ((code.TRANS, Transition) ∷ (code.BAD_TRANS, BadTransition) ∷ [])

-- "sync" "(" "ANY" "," name ")"
unfoldable pub sync_event : Lang Token GroupEvent
sync_event = do
  line ← word code.SYNC
  word code.LEFT_PARENTHESIS
  word code.ANY_MODE
  word code.COMMA
  name ← title
  word code.RIGHT_PARENTHESIS
  pure (forms.Sync (record { line = line; name = name }))

module _ (expr : Lang Token Expr) where
  -- val = expr [ ":" expr ]
  unfoldable pub val : Lang Token BinValue
  val = do
    first ← expr
    last ← maybe (after code.COLON expr)
    pure (record { line = line_of first; first = first; last = last })

  -- ( "state" | "bad_state" ) name "(" val { "," val } ")" ";"
  unfoldable pub state_bin : Lang Token Bin
  state_bin = do
    kind ← state_word
    name ← title
    word code.LEFT_PARENTHESIS
    values ← listed code.COMMA val
    word code.RIGHT_PARENTHESIS
    word code.SEMICOLON
    pure (record { line = kind.0; kind = kind.1; name = name; values = values })

  -- val "->" val { "->" val }
  unfoldable pub steps : Lang Token (List BinValue)
  steps = do
    first ← val
    word code.ARROW
    more ← listed code.ARROW val
    pure (first ∷ more)

  -- ( "trans" | "bad_trans" ) name "(" val "->" val { "->" val } ")" ";"
  unfoldable pub trans_bin : Lang Token Bin
  trans_bin = do
    kind ← trans_word
    name ← title
    word code.LEFT_PARENTHESIS
    values ← steps
    word code.RIGHT_PARENTHESIS
    word code.SEMICOLON
    pure (record { line = kind.0; kind = kind.1; name = name; values = values })

  unfoldable pub bin : Lang Token Bin
  bin = state_bin <|> trans_bin

  -- samp = "sample" name [ "." name ] "{" bin { bin } "}"
  unfoldable pub samp : Lang Token Sample
  samp = do
    line ← word code.SAMPLE
    name ← title
    signal ← maybe (after code.DOT title)
    word code.LEFT_BRACE
    bins ← some bin
    word code.RIGHT_BRACE
    pure (record { line = line; name = name; signal = signal; bins = bins })

module _ (expr : Lang Token Expr) (edge : Lang Token Edge) where
  -- event = edge | "sync" "(" "ANY" "," name ")"
  unfoldable pub event : Lang Token GroupEvent
  event = (forms.Edge <$> edge) <|> sync_event

  -- group = "coverage_group" name "{" "sample_event" "=" event ";" samp { samp } "}"
  unfoldable pub group : Lang Token CoverageGroup
  group = do
    line ← word code.COVERAGE_GROUP
    name ← title
    word code.LEFT_BRACE
    word code.SAMPLE_EVENT
    word code.EQUALS
    event ← event
    word code.SEMICOLON
    samples ← some (samp expr)
    word code.RIGHT_BRACE
    pure (record { line = line; name = name; event = event; samples = samples })
