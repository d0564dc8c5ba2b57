use Rattle.plain_run.proofs.WorkLists.{block_opened, nothing_opened}
use Rattle.plain_run.proofs.evaluate.work.next_timed.Goals as goal

pub loop-work-smaller : goal.loop-work-smaller
loop-work-smaller c =
    (nothing_opened c.loop-work.agenda.items c.pop.new.self.items c.in-Some.work c.in-Some.ensures.items c.in-Nothing.ensures.0 c.in-Nothing.ensures.1).smaller

pub loop-work-preserved : goal.loop-work-preserved
loop-work-preserved c =
    λ here goal start log ticks contents at.
    (nothing_opened c.loop-work.agenda.items c.pop.new.self.items c.in-Some.work c.in-Some.ensures.items c.in-Nothing.ensures.0 c.in-Nothing.ensures.1).finds here goal start log ticks contents (c.loop-work.invariant here goal start log ticks contents at)

pub loop-work-smaller-in-Continue-1 : goal.loop-work-smaller-in-Continue-1
loop-work-smaller-in-Continue-1 c =
    (block_opened c.loop-work.agenda.items c.pop.new.self.items c.push_all.new.agenda.items c.in-Some.work c.in-Block.block.now c.in-Some.ensures.items c.in-Block.ensures c.in_ok-push_all-in-Block.ensures).smaller

pub loop-work-preserved-in-Continue-1 : goal.loop-work-preserved-in-Continue-1
loop-work-preserved-in-Continue-1 c =
    λ here goal start log ticks contents at.
    (block_opened c.loop-work.agenda.items c.pop.new.self.items c.push_all.new.agenda.items c.in-Some.work c.in-Block.block.now c.in-Some.ensures.items c.in-Block.ensures c.in_ok-push_all-in-Block.ensures).finds here goal start log ticks contents (c.loop-work.invariant here goal start log ticks contents at)
