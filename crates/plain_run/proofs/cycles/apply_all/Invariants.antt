use Rattle.plain_run.proofs.ApplyingAll.{AppliedSoFar}
use Rattle.plain_run.proofs.cycles.apply_all.Given as goal

abbrev pub invariant-loop-drive : goal.invariant-loop-drive
invariant-loop-drive l = AppliedSoFar l.fn.outside l.outside l.due l.drive-index
