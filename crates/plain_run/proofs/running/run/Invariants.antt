use Rattle.std.proofs.Common.{◌-◌}
use Rattle.plain_run.proofs.Ran.{RunsSoFar}
use Rattle.plain_run.proofs.running.run.Given as goal

abbrev pub invariant-loop-run : goal.invariant-loop-run
invariant-loop-run l = RunsSoFar l.fn.program l.fn.nets l.fn.count l.fn.device l.limits l.run

abbrev pub decreases-loop-run : goal.decreases-loop-run
decreases-loop-run l = l.limits.cycles - l.run.cycle
