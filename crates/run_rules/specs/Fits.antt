-- Drives whose bits have their signals' widths.
use Rattle.std.specs.Prelude.{◌≡◌, ℕ, List, All, Some}
use Rattle.four_state.specs.declared.bit.Bit.{Bit}
use Rattle.vera_ast.specs.Signals.{NamedSignal}
use Rattle.vera_meaning.specs.Driving.{FitsSignal}
use Rattle.run_rules.specs.Drives.{Drive, Driven}

-- each drive gives an output signal as many bits as it is wide
abbrev pub AllFit : List NamedSignal → List Drive → Type 0
AllFit signals drives = All (λ d. FitsSignal signals d.signal d.bits) drives

-- so has each value that a signal was last driven with
abbrev pub FitsDriven : List NamedSignal → Driven → Type 0
FitsDriven signals driven = (signal : ℕ) (bits : List Bit) → driven signal ≡ Some bits → FitsSignal signals signal bits
