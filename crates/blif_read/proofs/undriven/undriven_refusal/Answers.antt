use Rattle.std.proofs.Common.{sym, ◌∙◌, arith}
use Rattle.blif_read.proofs.Firsts.{undriven-next_some, undriven-next_none, undriven-end}
use Rattle.blif_read.proofs.undriven.undriven_refusal.Goals as goal

pub returns-in-Some : goal.returns-in-Some
returns-in-Some c =
    let all = c.args.blocks.now in
    sym (undriven-next_some all c.loop-block.block-index c.block-item.result c.in-Some.refusal (omega arith) c.block-item.is (sym c.in-Some.is ∙ c.directive_undriven.ensures all c.in_ok-driven.ensures.set)) ∙ c.loop-block.invariant

pub loop-block-preserved : goal.loop-block-preserved
loop-block-preserved c =
    let all = c.args.blocks.now in
    sym (undriven-next_none all c.loop-block.block-index c.block-item.result (omega arith) c.block-item.is (sym c.in_default.is ∙ c.directive_undriven.ensures all c.in_ok-driven.ensures.set)) ∙ c.loop-block.invariant

pub returns : goal.returns
returns c = sym (undriven-end c.args.blocks.now c.loop-block.block-index (omega arith)) ∙ c.loop-block.invariant
