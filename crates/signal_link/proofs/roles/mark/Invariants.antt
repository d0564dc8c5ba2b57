use Rattle.std.proofs.Common.{◌≡◌, ℕ, List, ◌++◌, take, length}
use Rattle.signal_link.specs.Marks.{AreMarks}
use Rattle.signal_link.proofs.roles.mark.Given as goal

abbrev pub invariant-loop-net : goal.invariant-loop-net
invariant-loop-net l = record {
  same : length l.marks.items ≡ length l.fn.marks.items;
  marked : (known : List ℕ) → AreMarks l.fn.marks.items known → AreMarks l.marks.items (known ++ take l.net-index l.nets);
}
