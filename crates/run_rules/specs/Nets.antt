-- Signals and the nets of a netlist.
use Rattle.std.specs.Prelude.{ℕ, zero, suc, ◌==◌, Bool, true, false, List, [], ◌∷◌, ◌++◌, Option, Some, None, slice_get, codes, decimal, if◌then◌else◌}
use Rattle.std.specs.Option.{option_or}
use Rattle.four_state.specs.declared.bit.Bit.{Bit}
use Rattle.four_state.specs.declared.bit.Bit.TheVariants as bits
use Rattle.four_state.specs.declared.bit.Bit3.{Bit3}
use Rattle.four_state.specs.declared.bit.Bit3.TheVariants.{Zero, One, X}
use Rattle.four_state.specs.Logic.{logic_bit}
use Rattle.store_api.specs.declared.loc.Loc.TheVariants.{Global, Sample}
use Rattle.store_api.specs.declared.val.Val.TheVariants.{Bits}
use Rattle.store_api.specs.Places.{Contents}
use Rattle.vera_ast.specs.declared.tree.interfaces.Direction.{Direction}
use Rattle.vera_ast.specs.declared.tree.interfaces.Direction.TheVariants.{Input, Output}
use Rattle.vera_ast.specs.declared.typed.interface.TypedSignal.{TypedSignal}
use Rattle.vera_ast.specs.Signals.{NamedSignal}
use Rattle.blif_read.specs.Nets.{number}
use Rattle.run_rules.specs.Drives.{Driven}

-- the net of bit i of a signal: a signal of width 1 has its own name's
abbrev pub net_name : TypedSignal → ℕ → List ℕ
net_name s i = if s.width.bits == 1 then s.name else s.name ++ codes "[" ++ decimal i ++ codes "]"

-- The numbers of the nets of a signal's lowest n bits, bit 0 first. A net that isn't there has the number of nets.
abbrev pub lowest_nets : (names : List (List ℕ)) → TypedSignal → ℕ → List ℕ
lowest_nets names s zero = []
lowest_nets names s (suc n) = lowest_nets names s n ++ number names (net_name s n) ∷ []

abbrev pub nets_of : List (List ℕ) → TypedSignal → List ℕ
nets_of names s = lowest_nets names s s.width.bits

abbrev pub is_output : Direction → Bool
is_output Input = false
is_output Output = true

-- ---- driving

-- a bit as a net has it: z is x there
abbrev pub net_bit : Bit → Bit3
net_bit bits.Zero = Zero
net_bit bits.One = One
net_bit bits.X = X
net_bit bits.Z = X

-- the bit beside the first entry that is this net
abbrev pub bit_at : ℕ → List ℕ → List Bit → Option Bit3
bit_at net [] bs = None
bit_at net (k ∷ ks) [] = None
bit_at net (k ∷ ks) (b ∷ bs) = if k == net then Some (net_bit b) else bit_at net ks bs

-- what a signal that was driven gives a net
abbrev pub gives : List (List ℕ) → NamedSignal → Option (List Bit) → ℕ → Option Bit3
gives names s None net = None
gives names s (Some bs) net = if is_output s.signal.direction then bit_at net (nets_of names s.signal) bs else None

-- what the signals from number n on give a net: the first that drives it counts
abbrev pub given_from : ℕ → List (List ℕ) → List NamedSignal → Driven → ℕ → Option Bit3
given_from n names [] driven net = None
given_from n names (s ∷ signals) driven net = option_or (gives names s (driven n) net) (given_from (suc n) names signals driven net)

abbrev pub or_x : Option Bit3 → Bit3
or_x None = X
or_x (Some b) = b

-- the driven values of input nets: x before any
abbrev pub driven_nets : List (List ℕ) → List NamedSignal → Driven → ℕ → Bit3
driven_nets names signals driven net = or_x (given_from 0 names signals driven net)

-- the same values, but that each of these nets has its bit: what driving a signal does to the nets
abbrev pub put_bits : List ℕ → List Bit → (ℕ → Bit3) → ℕ → Bit3
put_bits [] bs value = value
put_bits (k ∷ ks) [] value = value
put_bits (k ∷ ks) (b ∷ bs) value = put_bits ks bs (λ net. if net == k then net_bit b else value net)

-- ---- sampling

-- the bits of nets
abbrev pub bits_of : (ℕ → Bit3) → List ℕ → List Bit
bits_of value [] = []
bits_of value (net ∷ nets) = logic_bit (value net) ∷ bits_of value nets

abbrev pub sample_of : List (List ℕ) → (ℕ → Bit3) → TypedSignal → List Bit
sample_of names value s = bits_of value (nets_of names s)

-- the new sample of the signal, where it is an input
abbrev pub sampled_at : List (List ℕ) → (ℕ → Bit3) → Option NamedSignal → Contents → ℕ → Contents
sampled_at names value None c n = c
sampled_at names value (Some s) c n =
    if is_output s.signal.direction then c else (λ l. Some (Bits (sample_of names value s.signal)))

-- the contents with the samples of all input signals
abbrev pub sampled : List (List ℕ) → List NamedSignal → (ℕ → Bit3) → Contents → Contents
sampled names signals value c (Global n) = c (Global n)
sampled names signals value c (Sample n) = sampled_at names value (slice_get signals n) c n (Sample n)
