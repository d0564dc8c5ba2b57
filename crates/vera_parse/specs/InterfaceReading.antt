-- The readers of Interfaces.
use Rattle.std.specs.Prelude.{ℕ, [], ◌∷◌}
use Rattle.grammar_laws.specs.Readers.{Parser, pure, ◌>>=◌, ◌>>◌}
use Rattle.vera_ast.specs.declared.codes.TheConstants as code
use Rattle.vera_ast.specs.declared.token.Token.{Token}
use Rattle.vera_ast.specs.declared.tree.declarations.Range.{Range}
use Rattle.vera_ast.specs.declared.tree.interfaces.Direction.{Direction}
use Rattle.vera_ast.specs.declared.tree.interfaces.Direction.TheVariants.{Input, Output}
use Rattle.vera_ast.specs.declared.tree.interfaces.Interface.{Interface}
use Rattle.vera_ast.specs.declared.tree.interfaces.Signal.{Signal}
use Rattle.vera_ast.specs.declared.tree.interfaces.SignalForm.TheVariants.{Clock, Timed}
use Rattle.vera_ast.specs.declared.tree.interfaces.SignalKind.{SignalKind}
use Rattle.vera_ast.specs.declared.tree.interfaces.SignalTime.{SignalTime}
use Rattle.vera_ast.specs.declared.tree.interfaces.SignalTime.TheVariants.{PositiveHold, PositiveSample, NegativeHold, NegativeSample}
use Rattle.vera_ast.specs.declared.tree.interfaces.Skew.{Skew}
use Rattle.parse_cursor.specs.TokenReading.{word, sign, number, either, many, maybe}
use Rattle.parse_cursor.specs.ListReading.{title, flag}

unfoldable pub skew : Parser Token Skew
skew = do
  word code.HASH
  is_negative ← flag code.MINUS
  amount ← number
  pure (record { is_negative = is_negative; amount = amount.number })

unfoldable pub signal_time : Parser Token (ℕ × SignalTime)
signal_time = sign ((code.PHOLD, PositiveHold) ∷ (code.PSAMPLE, PositiveSample) ∷ (code.NHOLD, NegativeHold) ∷ (code.NSAMPLE, NegativeSample) ∷ [])

unfoldable pub clock_kind : Parser Token SignalKind
clock_kind = do
  line ← word code.CLOCK
  pure (record { line = line; form = Clock })

unfoldable pub timed_kind : Parser Token SignalKind
timed_kind = do
  time ← signal_time
  skew ← maybe (code.HASH ∷ []) skew
  pure (record { line = time.0; form = Timed time.1 skew })

unfoldable pub kind : Parser Token SignalKind
kind = either (code.CLOCK ∷ []) clock_kind timed_kind

unfoldable pub direction : Parser Token (ℕ × Direction)
direction = sign ((code.INPUT, Input) ∷ (code.OUTPUT, Output) ∷ [])

module _ (range : Parser Token Range) where
  unfoldable pub signal : Parser Token Signal
  signal = do
    way ← direction
    range ← maybe (code.LEFT_BRACKET ∷ []) range
    name ← title
    kind ← kind
    word code.SEMICOLON
    pure (record { line = way.0; direction = way.1; range = range; name = name; kind = kind })

  unfoldable pub iface : Parser Token Interface
  iface = do
    line ← word code.INTERFACE
    name ← title
    word code.LEFT_BRACE
    signals ← many (code.INPUT ∷ code.OUTPUT ∷ []) signal
    word code.RIGHT_BRACE
    pure (record { line = line; name = name; signals = signals })
