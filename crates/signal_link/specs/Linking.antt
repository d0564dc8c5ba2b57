-- How linking goes from signal to signal.
use Rattle.std.specs.Prelude.{◌≡◌, ℕ, List, [], ◌∷◌, ◌++◌, length, map, Option, Some, None, Result, Ok, Err}
use Rattle.vera_ast.specs.declared.typed.interface.TypedSignal.{TypedSignal}
use Rattle.vera_ast.specs.Signals.{NamedSignal}
use Rattle.blif_read.specs.Netlists.{Parts}
use Rattle.run_rules.specs.Links.{Links, AllLink}
use Rattle.signal_link.specs.declared.linking.SignalNets.{SignalNets}
use Rattle.signal_link.specs.declared.linking.LinkError.{LinkError}
use Rattle.signal_link.specs.declared.linking.LinkError.TheVariants.{Unlinked, NoMemory}
use Rattle.signal_link.specs.declared.linking.Linker.{Linker}
use Rattle.signal_link.specs.Numbering.{IsNumbering}
use Rattle.signal_link.specs.Roles.{AreRoles}
use Rattle.signal_link.specs.Linked.{signal_nets}

pub record IsLinkerOf (p : Parts) (l : Linker) : Type 0 where
  pub numbers : IsNumbering l.numbers p.nets
  pub roles : AreRoles p l.roles

-- the nets of a signal that links, and nothing for another
abbrev pub IsAnswerFor : Parts → TypedSignal → Option SignalNets → Type 0
IsAnswerFor p s None = Links p s → ⊥
IsAnswerFor p s (Some nets) = Links p s × (nets ≡ signal_nets p.nets s)

abbrev pub named : List ℕ → TypedSignal → NamedSignal
named interface s = record { interface = interface; signal = s }

-- these signals link, and what has been found are their nets
pub record AreLinked (p : Parts) (signals : List NamedSignal) (found : List SignalNets) : Type 0 where
  pub nets : found ≡ map (λ s. signal_nets p.nets s.signal) signals
  pub all : AllLink p signals

-- the signal behind the first n doesn't link, and those do
pub record StopsAt (p : Parts) (signals : List NamedSignal) (n : ℕ) : Type 0 where
  pub before : List NamedSignal
  pub at : NamedSignal
  pub after : List NamedSignal
  pub is : signals ≡ before ++ at ∷ after
  pub number : n ≡ length before
  pub linked : AllLink p before
  pub unlinked : Links p at.signal → ⊥

-- where linking stands after these signals
abbrev pub Continues : Parts → List NamedSignal → List SignalNets → Result (Unit {0}) LinkError → Type 0
Continues p signals found (Ok done) = AreLinked p signals found
Continues p signals found (Err (Unlinked n)) = StopsAt p signals n
Continues p signals found (Err NoMemory) = Unit {0}

-- a refusal of the signal of this number; want of memory says nothing
abbrev pub IsUnlinkedAt : ℕ → LinkError → Type 0
IsUnlinkedAt n (Unlinked m) = m ≡ n
IsUnlinkedAt n NoMemory = Unit {0}
