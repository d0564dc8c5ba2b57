-- What linking answers: the nets of each signal, or the first signal that doesn't link.
use Rattle.std.specs.Prelude.{◌≡◌, ℕ, List, length, Some, slice_get}
use Rattle.vera_ast.specs.declared.typed.interface.TypedSignal.{TypedSignal}
use Rattle.vera_ast.specs.Signals.{NamedSignal}
use Rattle.blif_read.specs.Netlists.{Parts}
use Rattle.run_rules.specs.Nets.{nets_of, is_output}
use Rattle.run_rules.specs.Links.{IsFirstUnlinked}
use Rattle.signal_link.specs.declared.linking.SignalNets.{SignalNets}
use Rattle.signal_link.specs.declared.linking.LinkError.{LinkError}
use Rattle.signal_link.specs.declared.linking.LinkError.TheVariants.{Unlinked, NoMemory}

-- the nets of a signal, and whether it is driven
abbrev pub signal_nets : List (List ℕ) → TypedSignal → SignalNets
signal_nets names s = record { output = is_output s.direction; nets = nets_of names s }

-- one item for each signal, in the same order: its nets, and whether it is driven
pub record AreNetsOf (names : List (List ℕ)) (signals : List NamedSignal) (all : List SignalNets) : Type 0 where
  pub length : length all ≡ length signals
  pub each : (n : ℕ) (s : NamedSignal) → slice_get signals n ≡ Some s → slice_get all n ≡ Some (signal_nets names s.signal)

-- a refusal tells the first signal in text order that doesn't link; want of memory says nothing
abbrev pub IsLinkError : Parts → List NamedSignal → LinkError → Type 0
IsLinkError p signals (Unlinked n) = (s : NamedSignal) × IsFirstUnlinked p signals n s
IsLinkError p signals NoMemory = Unit {0}
