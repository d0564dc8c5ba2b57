-- What is left of a slice, whatever the answers to its questions are.
use Rattle.std.specs.Prelude.{ℕ, List, Option}
use Rattle.four_state.specs.declared.bit.Bit.{Bit}
use Rattle.store_api.specs.declared.loc.Loc.{Loc}
use Rattle.store_api.specs.declared.val.Val.{Val}

-- what a slice does beside its writes
pub data Effect : Type 0 where
  -- bytes are printed
  Prints : List ℕ → Effect
  -- a signal is to be driven with these bits in a cycle
  Drives : (cycle signal : ℕ) → List Bit → Effect

-- how a slice ends, where R is what may remain of a thread
pub data Outcome (R : Type 0) : Type 0 where
  -- the thread ends
  Ended : Outcome R
  -- it would take a tick above its budget
  Spent : Outcome R
  -- the thread waits for so many edges
  Cycle : (edges : ℕ) → Outcome R

-- A place is asked, with what follows each answer (none where the place was never written); a place is put; an
-- effect comes; or the slice ends, with what remains of its thread.
pub data Tree (R : Type 0) : Type 0 where
  Asks : Loc → (Option Val → Tree R) → Tree R
  Puts : Loc → Val → Tree R → Tree R
  Emits : Effect → Tree R → Tree R
  Ends : Outcome R → R → Tree R
