use Rattle.std.proofs.Common.{◌≡◌, take}
use Rattle.std.specs.List.{zip}
use Rattle.blif_device.specs.Valuations.{valuation}
use Rattle.blif_device.specs.Covers.{all_of, literal_values}
use Rattle.blif_device.proofs.covers.row_value.Given as goal

abbrev pub invariant-loop-index : goal.invariant-loop-index
invariant-loop-index l = l.all ≡ all_of (literal_values (valuation l.values) (take l.index (zip l.inputs l.row)))
