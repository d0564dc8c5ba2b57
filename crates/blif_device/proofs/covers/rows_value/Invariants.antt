use Rattle.std.proofs.Common.{◌≡◌, take, map}
use Rattle.blif_device.specs.Valuations.{valuation}
use Rattle.blif_device.specs.Covers.{any_of, row_value}
use Rattle.blif_device.proofs.covers.rows_value.Given as goal

abbrev pub invariant-loop-row : goal.invariant-loop-row
invariant-loop-row l = l.any ≡ any_of (map (row_value (valuation l.values) l.inputs) (take l.row-index l.rows))
