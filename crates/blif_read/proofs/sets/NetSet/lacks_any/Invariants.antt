use Rattle.std.proofs.Common.{◌≡◌, ℕ, List, drop}
use Rattle.std.specs.Prelude.{not}
use Rattle.std.specs.List.{list_any}
use Rattle.blif_read.specs.Refusals.{is_in}
use Rattle.blif_read.specs.Sets.{IsSet}
use Rattle.blif_read.proofs.sets.NetSet.lacks_any.Given as goal

abbrev pub invariant-loop-net : goal.invariant-loop-net
invariant-loop-net l = (known : List ℕ) → IsSet l.self known → list_any (λ net. not (is_in known net)) (drop l.net-index l.nets) ≡ list_any (λ net. not (is_in known net)) l.nets
