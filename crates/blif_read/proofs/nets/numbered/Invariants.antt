use Rattle.blif_read.specs.Known.{NumbersBlocks}
use Rattle.blif_read.proofs.nets.numbered.Given as goal

abbrev pub invariant-loop-block : goal.invariant-loop-block
invariant-loop-block l = NumbersBlocks l.nets l.yielded l.found.items
