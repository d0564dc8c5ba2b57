-- Interfaces, over the language of ranges.
use Rattle.std.specs.Prelude.{ℕ, [], ◌∷◌}
use Rattle.grammar_laws.specs.Languages.{Lang, pure, ◌>>=◌, ◌>>◌, ◌<|>◌, many, maybe}
use Rattle.vera_ast.specs.declared.codes.TheConstants as code
use Rattle.vera_ast.specs.declared.token.Token.{Token}
use Rattle.vera_ast.specs.declared.tree.declarations.Range.{Range}
use Rattle.vera_ast.specs.declared.tree.interfaces.Direction.{Direction}
use Rattle.vera_ast.specs.declared.tree.interfaces.Direction.TheVariants.{Input, Output}
use Rattle.vera_ast.specs.declared.tree.interfaces.Interface.{Interface}
use Rattle.vera_ast.specs.declared.tree.interfaces.Signal.{Signal}
use Rattle.vera_ast.specs.declared.tree.interfaces.SignalForm.TheVariants.{Clock, Timed}
use Rattle.vera_ast.specs.declared.tree.interfaces.SignalKind.{SignalKind}
use Rattle.vera_ast.specs.declared.tree.interfaces.SignalTime.{SignalTime}
use Rattle.vera_ast.specs.declared.tree.interfaces.SignalTime.TheVariants.{PositiveHold, PositiveSample, NegativeHold, NegativeSample}
use Rattle.vera_ast.specs.declared.tree.interfaces.Skew.{Skew}
use Rattle.parse_cursor.specs.Tokens.{word, sign, number}
use Rattle.parse_cursor.specs.Lists.{title, flag}

-- "#" [ "-" ] number
unfoldable pub skew : Lang Token Skew
skew = do
  word code.HASH
  is_negative ← flag code.MINUS
  amount ← number
  pure (record { is_negative = is_negative; amount = amount.number })

-- "PHOLD" | "PSAMPLE" | "NHOLD" | "NSAMPLE", with its line
unfoldable pub signal_time : Lang Token (ℕ × SignalTime)
signal_time = sign ((code.PHOLD, PositiveHold) ∷ (code.PSAMPLE, PositiveSample) ∷ (code.NHOLD, NegativeHold) ∷ (code.NSAMPLE, NegativeSample) ∷ [])

unfoldable pub clock_kind : Lang Token SignalKind
clock_kind = do
  line ← word code.CLOCK
  pure (record { line = line; form = Clock })

unfoldable pub timed_kind : Lang Token SignalKind
timed_kind = do
  time ← signal_time
  skew ← maybe skew
  pure (record { line = time.0; form = Timed time.1 skew })

-- kind = "CLOCK" | ( "PHOLD" | "PSAMPLE" | "NHOLD" | "NSAMPLE" ) [ "#" [ "-" ] number ]
unfoldable pub kind : Lang Token SignalKind
kind = clock_kind <|> timed_kind

-- "input" | "output", with its line
unfoldable pub direction : Lang Token (ℕ × Direction)
direction = sign ((code.INPUT, Input) ∷ (code.OUTPUT, Output) ∷ [])

module _ (range : Lang Token Range) where
  -- signal = ( "input" | "output" ) [ range ] name kind ";"
  unfoldable pub signal : Lang Token Signal
  signal = do
    way ← direction
    range ← maybe range
    name ← title
    kind ← kind
    word code.SEMICOLON
    pure (record { line = way.0; direction = way.1; range = range; name = name; kind = kind })

  -- iface = "interface" name "{" { signal } "}"
  unfoldable pub iface : Lang Token Interface
  iface = do
    line ← word code.INTERFACE
    name ← title
    word code.LEFT_BRACE
    signals ← many signal
    word code.RIGHT_BRACE
    pure (record { line = line; name = name; signals = signals })
