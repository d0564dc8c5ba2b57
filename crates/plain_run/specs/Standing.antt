-- What a run stands for before its turn in a cycle, and what a cycle comes to.
use Rattle.std.specs.Prelude.{◌≡◌, ℕ, List, [], ◌∷◌, Option, Some, None}
use Rattle.four_state.specs.declared.bit.Bit3.{Bit3}
use Rattle.vera_meaning.specs.Rests.{Rest}
use Rattle.vera_meaning.specs.Driving.{ItemsDrive}
use Rattle.run_rules.specs.declared.drive.Drive.{Drive}
use Rattle.run_rules.specs.declared.end.End.{End}
use Rattle.run_rules.specs.declared.limits.Limits.{Limits}
use Rattle.run_rules.specs.Designs.{Design}
use Rattle.run_rules.specs.Drives.{Driven}
use Rattle.run_rules.specs.Fits.{FitsDriven}
use Rattle.run_rules.specs.States.{State}
use Rattle.plain_run.specs.declared.cycles.Run.{Run}
use Rattle.plain_run.specs.Cycles.{GoesOnTo, EndsFrom}
use Rattle.plain_run.specs.Outsides.{StandsFor, BeginsCycle}
use Rattle.plain_run.specs.ReadyStates.{Kept, ready_state}
use Rattle.plain_run.specs.Values.{contents_of}
use Rattle.plain_run.specs.Work.{agenda_of}

-- all drives are due in this cycle
abbrev pub AllIn : ℕ → List Drive → Type 0
AllIn cycle [] = Unit {0}
AllIn cycle (d ∷ ds) = (d.cycle ≡ cycle) × AllIn cycle ds

abbrev pub kept_of : Run → (serial : ℕ) → Driven → List Bit3 → Kept
kept_of run serial driven held = record {
  serial = serial;
  cycle = run.cycle;
  contents = contents_of run.values;
  driven = driven;
  held = held;
  printed = run.log.printed.items;
  applied = run.applied.items;
}

abbrev pub rest_left : Run → Rest
rest_left run = record { agenda = agenda_of run.agenda.items }

-- the state before the turn
abbrev pub state_of : Run → (serial : ℕ) → Driven → List Bit3 → State Rest
state_of run serial driven held = ready_state (rest_left run) (kept_of run serial driven held)

-- signals were driven so, latches hold this, and no drive is due
pub record StandsAt (run : Run) (design : Design) (driven : Driven) (held : List Bit3) : Type 0 where
  pub outside : StandsFor run.outside design driven held
  pub fits : FitsDriven design.signals driven
  pub begins : BeginsCycle run.outside run.cycle
  pub nothing_due : run.log.due.items ≡ []
  pub drives : ItemsDrive design.signals (agenda_of run.agenda.items)

-- a run stands for some state
pub record StandsSomewhere (run : Run) : Type 0 where
  pub design : Design
  pub driven : Driven
  pub held : List Bit3
  pub stands : StandsAt run design driven held

-- from this state the run goes on to where it stands now
pub record WentOn (design : Design) (limits : Limits) (from : State Rest) (run : Run) : Type 0 where
  pub serial : ℕ
  pub driven : Driven
  pub held : List Bit3
  pub stands : StandsAt run design driven held
  pub moves : GoesOnTo design limits from (state_of run serial driven held)

-- from this state the run ends so, and has told this by then
pub record HasEnded (design : Design) (limits : Limits) (from : State Rest) (end : End) (cycle : ℕ) (printed : List ℕ) (applied : List Drive) : Type 0 where
  pub state : State Rest
  pub moves : EndsFrom design limits from end state
  pub cycle_is : state.cycle ≡ cycle
  pub printed_is : state.printed ≡ printed
  pub applied_is : state.applied ≡ applied

-- the run ended within the cycle, or goes on behind it
abbrev pub CycleDone : Option End → Design → Limits → State Rest → Run → Type 0
CycleDone None design limits from run = WentOn design limits from run
CycleDone (Some end) design limits from run = HasEnded design limits from end run.cycle run.log.printed.items run.applied.items
