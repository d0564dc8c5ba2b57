use Rattle.std.proofs.Common.{◌≡◌, take, map}
use Rattle.blif_read.specs.Netlists.{literals}
use Rattle.blif_read.proofs.parts.all_literals.Given as goal

abbrev pub invariant-loop-row : goal.invariant-loop-row
invariant-loop-row l = l.found.items ≡ map (λ r. literals r.parts) (take l.row-index l.rows)
