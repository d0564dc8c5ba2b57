-- The drives of a cycle, and what applying them does.
use Rattle.std.specs.Prelude.{◌≡◌, ℕ, ◌+◌, List, [], ◌++◌}
use Rattle.four_state.specs.declared.bit.Bit3.{Bit3}
use Rattle.run_rules.specs.declared.drive.Drive.{Drive}
use Rattle.run_rules.specs.Designs.{Design}
use Rattle.run_rules.specs.Drives.{Driven, driven_by}
use Rattle.run_rules.specs.Fits.{AllFit, FitsDriven}
use Rattle.plain_run.specs.declared.cycles.Run.{Run}
use Rattle.plain_run.specs.declared.outside.Outside.{Outside}
use Rattle.plain_run.specs.Outsides.{StandsFor, BeginsCycle}
use Rattle.plain_run.specs.Standing.{AllIn}

-- these drives, all of one cycle, may be applied behind what was driven
pub record CanApply (o : Outside) (design : Design) (driven : Driven) (held : List Bit3) (cycle : ℕ) (due : List Drive) : Type 0 where
  pub stands : StandsFor o design driven held
  pub fits : FitsDriven design.signals driven
  pub begins : BeginsCycle o cycle
  pub due_fit : AllFit design.signals due
  pub due_in : AllIn cycle due

pub record SomeCanApply (o : Outside) (due : List Drive) : Type 0 where
  pub design : Design
  pub driven : Driven
  pub held : List Bit3
  pub cycle : ℕ
  pub can : CanApply o design driven held cycle due

-- they were applied
pub record HasApplied (o : Outside) (design : Design) (driven : Driven) (held : List Bit3) (cycle : ℕ) (due : List Drive) : Type 0 where
  pub stands : StandsFor o design (driven_by due driven) held
  pub fits : FitsDriven design.signals (driven_by due driven)
  pub begins : BeginsCycle o (cycle + 1)

abbrev pub AppliesAll : (old new : Outside) → List Drive → Type 0
AppliesAll old new due = (design : Design) (driven : Driven) (held : List Bit3) (cycle : ℕ) → CanApply old design driven held cycle due → HasApplied new design driven held cycle due

-- what applying a run's drives leaves
pub record DrivesDone (old new : Run) : Type 0 where
  pub agenda : new.agenda ≡ old.agenda
  pub values : new.values ≡ old.values
  pub cycle : new.cycle ≡ old.cycle
  pub printed : new.log.printed ≡ old.log.printed
  pub due : new.log.due.items ≡ []
  pub applied : new.applied.items ≡ old.applied.items ++ old.log.due.items
  pub outside : AppliesAll old.outside new.outside old.log.due.items
