use Rattle.plain_run.proofs.Chains.{chain_begins_at, chain_goes_on_at, chain_typed, chain_ends}
use Rattle.plain_run.proofs.evaluate.expr.+value.Goals as goal

pub loop-link-init : goal.loop-link-init
loop-link-init t c =
    chain_begins_at _ _ _ _ _ _ _ _ c.in-Chain.is c.get.ensures c.as_slice-link-items.ensures c.value-left.ensures.of c.value-left.ensures.bits

pub loop-link-preserved : goal.loop-link-preserved
loop-link-preserved t c =
    chain_goes_on_at _ _ _ _ _ _ _ _ _ _ _ c.loop-link-test.true c.link-item.is c.loop-link.invariant c.value-right.ensures.of c.value-right.ensures.bits c.combined-left.ensures.of c.combined-left.ensures.bits

pub returns-after-loop-link-clause-of : goal.returns-after-loop-link-clause-of
returns-after-loop-link-clause-of t c = chain_typed _ _ _ _ _ _ c.loop-link.invariant c.loop-link-test.false

pub returns-after-loop-link-clause-bits : goal.returns-after-loop-link-clause-bits
returns-after-loop-link-clause-bits t c = chain_ends _ _ _ _ _ _ c.loop-link.invariant c.loop-link-test.false
