-- What the moves of one cycle come to.
use Rattle.std.specs.Prelude.{◌≡◌, ℕ, zero, suc, ◌+◌, ◌*◌, ◌<◌, List, ◌++◌, length, Some, None}
use Rattle.store_api.specs.Places.{Contents}
use Rattle.vera_meaning.specs.Rests.{Rest}
use Rattle.blif_device.specs.Edges.{held_after}
use Rattle.blif_device.specs.Valuations.{Valuation}
use Rattle.run_rules.specs.declared.drive.Drive.{Drive}
use Rattle.run_rules.specs.declared.end.End.{End}
use Rattle.run_rules.specs.declared.limits.Limits.{Limits}
use Rattle.run_rules.specs.Designs.{Design, settled_nets}
use Rattle.run_rules.specs.Drives.{driven_by}
use Rattle.run_rules.specs.Moves.{move}
use Rattle.run_rules.specs.Nets.{driven_nets, sampled}
use Rattle.run_rules.specs.Sources.{source_meaning}
use Rattle.run_rules.specs.States.{State}
use Rattle.plain_run.specs.Logs.{Told}
use Rattle.plain_run.specs.ReadyStates.{Kept}

-- so many moves further
unfoldable pub moved_on : Design → Limits → State Rest → ℕ → State Rest
moved_on design limits s zero = s
moved_on design limits s (suc n) = move source_meaning design limits (moved_on design limits s n)

-- the run goes on from the one state to the other, without an end
pub record GoesOnTo (design : Design) (limits : Limits) (s t : State Rest) : Type 0 where
  pub moves : ℕ
  pub is : moved_on design limits s moves ≡ t
  pub before : (n : ℕ) → n < moves → (moved_on design limits s n).ended ≡ None

-- from this state the run ends so, in that one
pub record EndsFrom (design : Design) (limits : Limits) (s : State Rest) (end : End) (t : State Rest) : Type 0 where
  pub moves : ℕ
  pub is : moved_on design limits s moves ≡ t
  pub over : t.ended ≡ Some end
  pub before : (n : ℕ) → n < moves → (moved_on design limits s n).ended ≡ None

-- the values of the nets in the next cycle, behind these drives
abbrev pub next_nets : Design → Kept → List Drive → Valuation
next_nets design k due = settled_nets design (driven_nets design.netlist.nets design.signals (driven_by due k.driven)) k.held

-- what a run keeps in the next cycle, where its slice left these contents and told this
abbrev pub next_kept : Design → Kept → Contents → Told → Kept
next_kept design k contents told = record {
  serial = k.serial + 1;
  cycle = k.cycle + 1;
  contents = sampled design.netlist.nets design.signals (next_nets design k told.due) contents;
  driven = driven_by told.due k.driven;
  held = held_after design.netlist (next_nets design k told.due);
  printed = told.printed;
  applied = k.applied ++ told.due;
}

-- how many bytes the printed text and the applied drives count as
abbrev pub told_size : List ℕ → List Drive → ℕ
told_size printed applied = length printed + 64 * length applied
