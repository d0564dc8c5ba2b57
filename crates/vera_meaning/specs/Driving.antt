-- What a thread drives: output signals alone, in the present cycle, with their widths.
use Rattle.std.specs.Prelude.{◌≡◌, ℕ, List, [], ◌∷◌, length, Some, slice_get}
use Rattle.four_state.specs.declared.bit.Bit.{Bit}
use Rattle.slice_core.specs.Tree.{Effect, Prints, Drives}
use Rattle.vera_ast.specs.declared.tree.interfaces.Direction.TheVariants.{Output}
use Rattle.vera_ast.specs.Signals.{NamedSignal, DrivesOutputs}
use Rattle.vera_meaning.specs.Rests.{Item, Do, Again}

-- the number stands for an output signal, and the bits have its width
pub record FitsSignal (signals : List NamedSignal) (signal : ℕ) (bits : List Bit) : Type 0 where
  pub named : NamedSignal
  pub is : slice_get signals signal ≡ Some named
  pub output : named.signal.direction ≡ Output
  pub width : length bits ≡ named.signal.width.bits

-- each drive of what is still to do names an output signal
abbrev pub ItemDrives : List NamedSignal → Item → Type 0
ItemDrives signals (Do s) = DrivesOutputs signals s
ItemDrives signals (Again line condition body) = DrivesOutputs signals body

abbrev pub ItemsDrive : List NamedSignal → List Item → Type 0
ItemsDrive signals [] = Unit {0}
ItemsDrive signals (i ∷ items) = ItemDrives signals i × ItemsDrive signals items

-- a drive is due in this cycle, names an output signal, and has its width
abbrev pub EffectFits : List NamedSignal → ℕ → Effect → Type 0
EffectFits signals cycle (Prints bytes) = Unit {0}
EffectFits signals cycle (Drives c n bits) = (c ≡ cycle) × FitsSignal signals n bits

abbrev pub EffectsFit : List NamedSignal → ℕ → List Effect → Type 0
EffectsFit signals cycle [] = Unit {0}
EffectsFit signals cycle (e ∷ es) = EffectFits signals cycle e × EffectsFit signals cycle es
