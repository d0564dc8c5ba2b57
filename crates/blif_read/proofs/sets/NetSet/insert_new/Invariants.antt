use Rattle.std.proofs.Common.{◌≡◌, ℕ, List, ◌++◌, take, drop, length}
use Rattle.blif_read.specs.Sets.{IsSet, clashes}
use Rattle.blif_read.proofs.sets.NetSet.insert_new.Given as goal

abbrev pub invariant-loop-net : goal.invariant-loop-net
invariant-loop-net l = record {
  same : length l.self ≡ length l.fn.self;
  set : (known : List ℕ) → IsSet l.fn.self known → IsSet l.self (known ++ take l.net-index l.nets);
  clash : (known : List ℕ) → IsSet l.fn.self known → clashes (known ++ take l.net-index l.nets) (drop l.net-index l.nets) ≡ clashes known l.nets;
}
