-- States of a run of one thread: before its turn in a cycle, and behind it.
use Rattle.std.specs.Prelude.{ℕ, ◌+◌, List, [], ◌∷◌, None}
use Rattle.four_state.specs.declared.bit.Bit3.{Bit3}
use Rattle.store_api.specs.Places.{Contents}
use Rattle.slice_core.specs.Tree.{Outcome}
use Rattle.vera_meaning.specs.Rests.{Rest}
use Rattle.run_rules.specs.declared.drive.Drive.{Drive}
use Rattle.run_rules.specs.Drives.{Driven}
use Rattle.run_rules.specs.Moves.{outcome_taken}
use Rattle.run_rules.specs.States.{State}
use Rattle.plain_run.specs.Logs.{Told}

-- what a run keeps beside its one thread
pub record Kept : Type 0 where
  pub serial : ℕ
  pub cycle : ℕ
  pub contents : Contents
  pub driven : Driven
  pub held : List Bit3
  pub printed : List ℕ
  pub applied : List Drive

-- the thread is ready, and no drive is due
abbrev pub ready_state : Rest → Kept → State Rest
ready_state rest k = record {
  contents = k.contents;
  ready = record { serial = k.serial; thread = 1; rest = rest } ∷ [];
  waiting = [];
  live = 1 ∷ [];
  next_serial = k.serial + 1;
  due = [];
  driven = k.driven;
  held = k.held;
  cycle = k.cycle;
  turns = 0;
  printed = k.printed;
  applied = k.applied;
  ended = None;
}

-- its slice left these contents, and told this, and its outcome isn't taken yet
abbrev pub told_state : Kept → Contents → Told → State Rest
told_state k contents told = record {
  contents = contents;
  ready = [];
  waiting = [];
  live = 1 ∷ [];
  next_serial = k.serial + 1;
  due = told.due;
  driven = k.driven;
  held = k.held;
  cycle = k.cycle;
  turns = 1;
  printed = told.printed;
  applied = k.applied;
  ended = None;
}

-- and now it is
abbrev pub turned_state : Kept → Contents → Told → Outcome Rest → Rest → State Rest
turned_state k contents told outcome rest = outcome_taken (told_state k contents told) 1 outcome rest
