use Rattle.std.proofs.Common.{◌≡◌, take}
use Rattle.run_rules.specs.Drives.{meet}
use Rattle.plain_run.proofs.vectors.meet.Given as goal

abbrev pub invariant-loop-at : goal.invariant-loop-at
invariant-loop-at l = l.met ≡ meet (take l.at l.a) (take l.at l.b)
