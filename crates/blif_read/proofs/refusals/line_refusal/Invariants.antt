use Rattle.std.proofs.Common.{◌≡◌, take, drop, []}
use Rattle.blif_read.specs.Refusals.{line_refusals}
use Rattle.blif_read.specs.Checking.{first, HasSize, Knows}
use Rattle.blif_read.proofs.refusals.line_refusal.Given as goal

abbrev pub invariant-loop-block : goal.invariant-loop-block
invariant-loop-block l = record {
  size : HasSize l.count l.seen;
  knows : Knows l.seen l.blocks (take l.block-index l.blocks) (take l.block-index l.blocks);
  rest : first (line_refusals l.blocks (take l.block-index l.blocks) (drop l.block-index l.blocks)) ≡ first (line_refusals l.blocks [] l.blocks);
}
