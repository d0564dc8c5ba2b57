-- Interfaces: the widths of their signals, and which signals they may have.
use Rattle.std.specs.Prelude.{ℕ, suc, not, ◌==◌, ◌&&◌, Bool, true, false, List, [], ◌∷◌, filter, Option, Some, None, Ok}
use Rattle.four_state.specs.Numbers.{number_of}
use Rattle.vera_ast.specs.Types.{one}
use Rattle.vera_ast.specs.declared.tree.declarations.Range.{Range}
use Rattle.vera_ast.specs.declared.tree.interfaces.Direction.{Direction}
use Rattle.vera_ast.specs.declared.tree.interfaces.Direction.TheVariants.{Input, Output}
use Rattle.vera_ast.specs.declared.tree.interfaces.Interface.{Interface}
use Rattle.vera_ast.specs.declared.tree.interfaces.Signal.{Signal}
use Rattle.vera_ast.specs.declared.tree.interfaces.SignalForm.{SignalForm}
use Rattle.vera_ast.specs.declared.tree.interfaces.SignalForm.TheVariants.{Clock, Timed}
use Rattle.vera_ast.specs.declared.tree.interfaces.SignalTime.{SignalTime}
use Rattle.vera_ast.specs.declared.tree.interfaces.SignalTime.TheVariants as time
use Rattle.vera_ast.specs.declared.tree.interfaces.Skew.{Skew}
use Rattle.vera_ast.specs.declared.typed.interface.TypedInterface.{TypedInterface}
use Rattle.vera_ast.specs.declared.typed.interface.TypedSignal.{TypedSignal}
use Rattle.vera_ast.specs.declared.typed.interface.TypedSignalKind.{TypedSignalKind}
use Rattle.vera_ast.specs.declared.typed.interface.TypedSignalKind.TheVariants as kind
use Rattle.vera_ast.specs.declared.typed.types.Width.{Width}
use Rattle.typing_rules.specs.Checked.{Checked, ◌>>=◌, ◌>>◌, keeps, each, wrong_signal}
use Rattle.typing_rules.specs.DataTypes.{range}
use Rattle.typing_rules.specs.Scopes.{Scopes}
use Rattle.typing_rules.specs.declared.names.KnownSignal.{KnownSignal}

-- a signal without a range is one bit
abbrev pub signal_width : Scopes → Option Range → Checked Width
signal_width scopes None = Ok one
signal_width scopes (Some r) = range scopes r

abbrev pub kind_at : SignalTime → TypedSignalKind
kind_at time.PositiveHold = kind.PositiveHold
kind_at time.PositiveSample = kind.PositiveSample
kind_at time.NegativeHold = kind.NegativeHold
kind_at time.NegativeSample = kind.NegativeSample

abbrev pub kind_of : SignalForm → TypedSignalKind
kind_of Clock = kind.Clock
kind_of (Timed at skew) = kind_at at

-- ---- one signal

abbrev pub is_below_zero : Option Skew → Bool
is_below_zero None = false
is_below_zero (Some skew) = skew.is_negative && not (number_of skew.amount.value == 0)

abbrev pub is_above_zero : Option Skew → Bool
is_above_zero None = false
is_above_zero (Some skew) = not skew.is_negative && not (number_of skew.amount.value == 0)

-- an output is PHOLD without a negative skew; an input is CLOCK, or PSAMPLE without a positive skew
abbrev pub is_wrong_form : Direction → SignalForm → Bool
is_wrong_form Output (Timed time.PositiveHold skew) = is_below_zero skew
is_wrong_form Input Clock = false
is_wrong_form Input (Timed time.PositiveSample skew) = is_above_zero skew
is_wrong_form _ _ = true

unfoldable pub typed_signal : Scopes → Signal → Checked TypedSignal
typed_signal scopes s = do
  width ← signal_width scopes s.range
  keeps s.line ((wrong_signal, is_wrong_form s.direction s.kind.form) ∷ [])
  Ok (record { line = s.line; direction = s.direction; width = width; name = s.name; kind = kind_of s.kind.form })

-- ---- the whole: exactly one CLOCK, which is an input of one bit

abbrev pub is_clock_kind : TypedSignalKind → Bool
is_clock_kind kind.Clock = true
is_clock_kind _ = false

abbrev pub is_input : Direction → Bool
is_input Input = true
is_input Output = false

abbrev pub is_good_clock : TypedSignal → Bool
is_good_clock s = is_input s.direction && (s.width.bits == 1)

abbrev pub is_one_clock : List TypedSignal → Bool
is_one_clock (s ∷ []) = is_good_clock s
is_one_clock _ = false

unfoldable pub typed_interface : Scopes → Interface → Checked TypedInterface
typed_interface scopes i = do
  signals ← each (typed_signal scopes) i.signals
  keeps i.line ((wrong_signal, not (is_one_clock (filter (λ s. is_clock_kind s.kind) signals))) ∷ [])
  Ok (record { line = i.line; name = i.name; signals = signals })

-- ---- as its uses see it: signals are numbered over all interfaces, in text order

unfoldable pub known_signals : Scopes → ℕ → List Signal → Checked (List KnownSignal)
known_signals scopes n [] = Ok []
known_signals scopes n (s ∷ more) = do
  width ← signal_width scopes s.range
  others ← known_signals scopes (suc n) more
  Ok (record { name = s.name; is = record { number = n; width = width }; direction = s.direction; kind = kind_of s.kind.form } ∷ others)
