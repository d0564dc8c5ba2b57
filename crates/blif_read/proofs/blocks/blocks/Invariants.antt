use Rattle.std.proofs.Common.{◌≡◌}
use Rattle.blif_read.specs.Directives.{blocks}
use Rattle.blif_read.proofs.blocks.blocks.Given as goal

abbrev pub invariant-loop-line : goal.invariant-loop-line
invariant-loop-line l = l.found.items ≡ blocks l.yielded
