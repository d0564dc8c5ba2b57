use Rattle.std.proofs.Common.{◌≡◌, ◌+◌, ◌-◌, ◌≤◌, ℕ, List, vec_len}
use Rattle.vera_io.specs.Shelf.{IsFrontOf}
use Rattle.vera_io.proofs.reading.read_all.Given as goal

abbrev pub invariant-loop-bytes : goal.invariant-loop-bytes
invariant-loop-bytes g l = record {
  front : IsFrontOf l.bytes.items (g.S.Shelf.bytes_of l.initial.shelf l.name);
  room : vec_len l.piece ≡ 65536;
  short : vec_len l.bytes ≤ l.limit + 1;
  kept : (other : List ℕ) → g.S.Shelf.bytes_of l.shelf other ≡ g.S.Shelf.bytes_of l.initial.shelf other;
  counts : (other : List ℕ) → g.S.Shelf.faults_of l.initial.shelf other ≤ g.S.Shelf.faults_of l.shelf other;
}

abbrev pub decreases-loop-bytes : goal.decreases-loop-bytes
decreases-loop-bytes g l = l.limit + 1 - vec_len l.bytes
