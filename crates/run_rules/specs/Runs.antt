-- A run, move by move, and its final state.
use Rattle.std.specs.Prelude.{◌≡◌, ℕ, zero, suc, ◌<◌, Some, None}
use Rattle.blif_device.specs.Edges.{first_held}
use Rattle.run_rules.specs.Designs.{Design}
use Rattle.run_rules.specs.States.{State, Limits, End, begun}
use Rattle.slice_core.specs.Starts.{Meaning}
use Rattle.run_rules.specs.Moves.{move}

-- the state after so many moves
unfoldable pub run : {R : Type 0} → Meaning R → Design → Limits → R → ℕ → State R
run meaning design limits rest zero = begun (first_held design.netlist) rest
run meaning design limits rest (suc n) = move meaning design limits (run meaning design limits rest n)

-- the state at the first move that has an end
pub record IsFinal {R : Type 0} (meaning : Meaning R) (design : Design) (limits : Limits) (rest : R) (end : End) (state : State R) : Type 0 where
  pub moves : ℕ
  pub is : run meaning design limits rest moves ≡ state
  pub over : state.ended ≡ Some end
  pub first : (n : ℕ) → n < moves → (run meaning design limits rest n).ended ≡ None
