use Rattle.std.proofs.Common.{arith}
use Rattle.plain_run.proofs.ApplyingAll.{starts, may_apply, goes_on, all_applied}
use Rattle.plain_run.proofs.cycles.apply_all.Goals as goal

pub loop-drive-init : goal.loop-drive-init
loop-drive-init c = starts c.args.outside.now c.args.due.now

pub apply-requires : goal.apply-requires
apply-requires c =
    may_apply _ _ _ c.loop-drive.drive-index c.drive-item.result c.requires.design c.requires.driven c.requires.held c.requires.cycle c.requires.can c.loop-drive.invariant c.loop-drive-test.true c.drive-item.is

pub loop-drive-preserved : goal.loop-drive-preserved
loop-drive-preserved c =
    goes_on _ _ _ _ c.loop-drive.drive-index c.drive-item.result c.apply.ensures.applied c.apply.ensures.begins c.loop-drive.invariant c.loop-drive-test.true c.drive-item.is

pub returns : goal.returns
returns c = let past = c.loop-drive-test.false in all_applied _ _ _ c.loop-drive.drive-index c.loop-drive.invariant (omega (arith, past))
