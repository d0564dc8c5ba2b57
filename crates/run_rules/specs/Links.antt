-- Which signals link to the nets of a netlist.
use Rattle.std.specs.Prelude.{◌≡◌, ◌≢◌, ◌⊎◌, ℕ, ◌<◌, List, All, Contains, Some, slice_get}
use Rattle.vera_ast.specs.declared.tree.interfaces.Direction.{Direction}
use Rattle.vera_ast.specs.declared.tree.interfaces.Direction.TheVariants.{Input, Output}
use Rattle.vera_ast.specs.declared.typed.interface.TypedSignalKind.{TypedSignalKind}
use Rattle.vera_ast.specs.declared.typed.interface.TypedSignalKind.TheVariants.{Clock}
use Rattle.vera_ast.specs.declared.typed.interface.TypedSignal.{TypedSignal}
use Rattle.vera_ast.specs.Signals.{NamedSignal}
use Rattle.blif_read.specs.Netlists.{Parts}
use Rattle.run_rules.specs.Nets.{nets_of}

-- the net may be driven by a testbench: it is an input, and not the clock
abbrev pub IsDrivable : Parts → ℕ → Type 0
IsDrivable p net = Contains p.inputs net × (p.clock ≢ Some net)

-- the net may be sampled: it is an output or an input
abbrev pub IsSampled : Parts → ℕ → Type 0
IsSampled p net = Contains p.outputs net ⊎ Contains p.inputs net

-- the netlist's clock, where it has one, has this name
abbrev pub HasClockName : Parts → List ℕ → Type 0
HasClockName p name = (net : ℕ) → p.clock ≡ Some net → slice_get p.nets net ≡ Some name

-- Each net of an output signal may be driven, each of an input signal may be sampled. The CLOCK, an input, only has to
-- have the name of the netlist's clock, where there is one.
abbrev pub LinksAs : Parts → TypedSignal → TypedSignalKind → Direction → Type 0
LinksAs p s Clock Input = HasClockName p s.name
LinksAs p s kind Output = All (IsDrivable p) (nets_of p.nets s)
LinksAs p s kind Input = All (IsSampled p) (nets_of p.nets s)

abbrev pub Links : Parts → TypedSignal → Type 0
Links p s = LinksAs p s s.kind s.direction

-- every signal links
abbrev pub AllLink : Parts → List NamedSignal → Type 0
AllLink p signals = (n : ℕ) (s : NamedSignal) → slice_get signals n ≡ Some s → Links p s.signal

-- the first signal in text order that doesn't link
pub record IsFirstUnlinked (p : Parts) (signals : List NamedSignal) (n : ℕ) (s : NamedSignal) : Type 0 where
  pub is : slice_get signals n ≡ Some s
  pub unlinked : Links p s.signal → ⊥
  pub first : (m : ℕ) (t : NamedSignal) → m < n → slice_get signals m ≡ Some t → Links p t.signal
