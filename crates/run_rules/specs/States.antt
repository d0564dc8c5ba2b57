-- The state of a run. R is what may remain of a thread.
use Rattle.std.specs.Prelude.{ℕ, List, [], ◌∷◌, Option, None}
use Rattle.four_state.specs.declared.bit.Bit3.{Bit3}
use Rattle.store_api.specs.Places.{Contents, nothing_written}
use Rattle.run_rules.specs.Drives.{Drive, Driven}
pub use Rattle.run_rules.specs.declared.end.End.{End}
pub use Rattle.run_rules.specs.declared.end.End.TheVariants.{Finished, Limit, Fault, SpentSlice, SpentTurns}
pub use Rattle.run_rules.specs.declared.limits.Limits.{Limits}

-- a thread that is ready: the entry's serial, the thread's number and rest
pub record Entry (R : Type 0) : Type 0 where
  pub serial : ℕ
  pub thread : ℕ
  pub rest : R

-- a thread that waits for edges: how many are left
pub record Waiting (R : Type 0) : Type 0 where
  pub thread : ℕ
  pub edges : ℕ
  pub rest : R

pub record State (R : Type 0) : Type 0 where
  pub contents : Contents
  -- the ready threads, first in, first out
  pub ready : List (Entry R)
  -- the waiting threads, in the order in which they began to wait
  pub waiting : List (Waiting R)
  -- the numbers of the threads that live
  pub live : List ℕ
  -- the serial of the next entry
  pub next_serial : ℕ
  -- the drives that are due, in order of adding
  pub due : List Drive
  -- what the output signals were last driven with
  pub driven : Driven
  -- what each latch holds, in the netlist's order
  pub held : List Bit3
  pub cycle : ℕ
  -- how many slices were run in this cycle
  pub turns : ℕ
  pub printed : List ℕ
  -- the drives that were applied, in order
  pub applied : List Drive
  pub ended : Option End

-- thread 1 is ready with this rest, in cycle 0
abbrev pub begun : {R : Type 0} → (held : List Bit3) → R → State R
begun held rest = record {
  contents = nothing_written;
  ready = record { serial = 1; thread = 1; rest = rest } ∷ [];
  waiting = [];
  live = 1 ∷ [];
  next_serial = 2;
  due = [];
  driven = λ n. None;
  held = held;
  cycle = 0;
  turns = 0;
  printed = [];
  applied = [];
  ended = None;
}
