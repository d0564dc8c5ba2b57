use Rattle.std.proofs.Common.{◌≡◌, ℕ, List, drop}
use Rattle.blif_read.specs.Refusals.{meet}
use Rattle.blif_read.specs.Sets.{IsSet}
use Rattle.blif_read.proofs.sets.NetSet.has_any.Given as goal

abbrev pub invariant-loop-net : goal.invariant-loop-net
invariant-loop-net l = (known : List ℕ) → IsSet l.self known → meet known (drop l.net-index l.nets) ≡ meet known l.nets
