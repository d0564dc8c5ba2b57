-- What a run's outside stands for.
use Rattle.std.specs.Prelude.{◌≡◌, ◌≢◌, ℕ, ◌<◌, List, [], length, Option, Some, None, option_map, option_and_then, slice_get}
use Rattle.four_state.specs.declared.bit.Bit.{Bit}
use Rattle.four_state.specs.declared.bit.Bit3.{Bit3}
use Rattle.store_api.specs.Places.{Contents}
use Rattle.blif_read.specs.Valid.{IsValid}
use Rattle.blif_device.specs.Edges.{held_after}
use Rattle.blif_device.specs.Valuations.{valuation}
use Rattle.vera_ast.specs.Signals.{AreApart}
use Rattle.vera_meaning.specs.Driving.{FitsSignal}
use Rattle.run_rules.specs.declared.drive.Drive.{Drive}
use Rattle.run_rules.specs.Designs.{Design, settled_nets}
use Rattle.run_rules.specs.Drives.{Driven, driven_by, given_to}
use Rattle.run_rules.specs.Links.{AllLink}
use Rattle.run_rules.specs.Nets.{driven_nets, sampled}
use Rattle.signal_link.specs.declared.linking.SignalNets.{SignalNets}
use Rattle.signal_link.specs.Linked.{AreNetsOf}
use Rattle.plain_run.specs.declared.outside.LastDrive.{LastDrive}
use Rattle.plain_run.specs.declared.outside.Outside.{Outside}

-- the netlist is valid, all signals link to it, and these are their nets
pub record IsLinked (design : Design) (all : List SignalNets) : Type 0 where
  pub valid : IsValid design.netlist
  pub apart : AreApart design.signals
  pub linked : AllLink design.netlist design.signals
  pub nets : AreNetsOf design.netlist.nets design.signals all

-- no signal was driven
abbrev pub undriven : Driven
undriven = λ n. None

-- the last drive of a signal, where there is one
abbrev pub last_at : List (Option LastDrive) → ℕ → Option LastDrive
last_at driven n = option_and_then (λ d. d) (slice_get driven n)

-- the values that signals were last driven with, and what latches hold
pub record StandsFor (o : Outside) (design : Design) (driven : Driven) (latched : List Bit3) : Type 0 where
  pub linked : IsLinked design o.nets.now
  pub count : o.count ≡ length design.netlist.nets
  pub netlist : o.device.netlist ≡ design.netlist
  pub held : o.device.held ≡ latched
  pub nets_size : length o.device.driven ≡ length design.netlist.nets
  pub nets_driven : valuation o.device.driven ≡ driven_nets design.netlist.nets design.signals driven
  pub signals_size : length o.driven.items ≡ length design.signals
  pub signals : (n : ℕ) → option_map (λ (l : LastDrive). l.bits) (last_at o.driven.items n) ≡ driven n

-- no signal was driven in this cycle yet
abbrev pub BeginsCycle : Outside → ℕ → Type 0
BeginsCycle o cycle = (n : ℕ) (l : LastDrive) → last_at o.driven.items n ≡ Some l → l.cycle < cycle

-- the signals that were driven in this cycle are those of these drives
abbrev pub IsMarked : Outside → ℕ → List Drive → Type 0
IsMarked o cycle done = (n : ℕ) (l : LastDrive) → last_at o.driven.items n ≡ Some l → (l.cycle ≡ cycle → given_to n done ≢ []) × (l.cycle ≢ cycle → given_to n done ≡ [])

-- these drives of a cycle were applied behind the former ones
pub record Applied (o : Outside) (design : Design) (former : Driven) (held : List Bit3) (done : List Drive) (cycle : ℕ) : Type 0 where
  pub stands : StandsFor o design (driven_by done former) held
  pub fits : (n : ℕ) (bits : List Bit) → driven_by done former n ≡ Some bits → FitsSignal design.signals n bits
  pub marked : IsMarked o cycle done
  -- a signal that wasn't driven at all wasn't driven by these
  pub others : (n : ℕ) → last_at o.driven.items n ≡ None → given_to n done ≡ []

-- some drives of the drive's cycle were applied, and it fits
pub record SomeApplied (o : Outside) (drive : Drive) : Type 0 where
  pub design : Design
  pub former : Driven
  pub held : List Bit3
  pub done : List Drive
  pub applied : Applied o design former held done drive.cycle
  pub fits : FitsSignal design.signals drive.signal drive.bits

-- the next cycle began: the input signals were sampled, and the latches took their inputs
pub record NextCycle (o : Outside) (design : Design) (driven : Driven) (held : List Bit3) (before after : Contents) : Type 0 where
  pub stands : StandsFor o design driven (held_after design.netlist (settled_nets design (driven_nets design.netlist.nets design.signals driven) held))
  pub sampled : after ≡ sampled design.netlist.nets design.signals (settled_nets design (driven_nets design.netlist.nets design.signals driven) held) before
