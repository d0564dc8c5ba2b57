use Rattle.std.proofs.Common.{◌≡◌, ℕ, List, ◌++◌, take, length}
use Rattle.blif_read.specs.Sets.{IsSet}
use Rattle.blif_read.proofs.sets.NetSet.insert_all.Given as goal

abbrev pub invariant-loop-net : goal.invariant-loop-net
invariant-loop-net l = record {
  same : length l.self ≡ length l.fn.self;
  set : (known : List ℕ) → IsSet l.fn.self known → IsSet l.self (known ++ take l.net-index l.nets);
}
