use Rattle.std.proofs.Common.{sym, ◌∙◌, arith, take}
use Rattle.blif_read.proofs.Firsts.{line-next_some, line-next_none, line-end, knows-next, size-same}
use Rattle.blif_read.proofs.refusals.line_refusal.Goals as goal

pub returns-in-Some : goal.returns-in-Some
returns-in-Some c =
    let all = c.args.blocks.now in
    let i = c.loop-block.block-index in
    sym (line-next_some all i c.block-item.result c.in-Some.refusal (omega arith) c.block-item.is (sym c.in-Some.is ∙ c.block_refusal.ensures.refusal all (take i all) c.loop-block.invariant.knows)) ∙ c.loop-block.invariant.rest

pub loop-block-preserved : goal.loop-block-preserved
loop-block-preserved c =
    let all = c.args.blocks.now in
    let i = c.loop-block.block-index in
    record {
      size = size-same _ _ _ c.loop-block.invariant.size.driven c.block_refusal.ensures.size;
      knows = knows-next _ all i c.block-item.result (omega arith) c.block-item.is (c.in_default.ensures.knows all (take i all) c.loop-block.invariant.knows);
      rest = sym (line-next_none all i c.block-item.result (omega arith) c.block-item.is (sym c.in_default.is ∙ c.block_refusal.ensures.refusal all (take i all) c.loop-block.invariant.knows)) ∙ c.loop-block.invariant.rest;
    }

pub returns : goal.returns
returns c = sym (line-end c.args.blocks.now c.loop-block.block-index (omega arith)) ∙ c.loop-block.invariant.rest
