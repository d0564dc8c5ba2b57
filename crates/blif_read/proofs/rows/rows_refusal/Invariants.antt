use Rattle.std.proofs.Common.{◌≡◌, drop}
use Rattle.std.specs.List.{flat_map}
use Rattle.blif_read.specs.Refusals.{row_refusals}
use Rattle.blif_read.specs.Checking.{first}
use Rattle.blif_read.proofs.rows.rows_refusal.Given as goal

abbrev pub invariant-loop-row : goal.invariant-loop-row
invariant-loop-row l = first (flat_map (row_refusals l.block) (drop l.row-index l.row-items)) ≡ first (flat_map (row_refusals l.block) l.row-items)
