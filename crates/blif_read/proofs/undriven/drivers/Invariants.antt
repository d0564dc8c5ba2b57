use Rattle.std.proofs.Common.{◌≡◌, take, length}
use Rattle.blif_read.specs.Refusals.{each, drivers}
use Rattle.blif_read.specs.Sets.{IsSet}
use Rattle.blif_read.proofs.undriven.drivers.Given as goal

abbrev pub invariant-loop-block : goal.invariant-loop-block
invariant-loop-block l = record {
  size : length l.found ≡ l.count;
  set : IsSet l.found (each drivers (take l.block-index l.blocks));
}
