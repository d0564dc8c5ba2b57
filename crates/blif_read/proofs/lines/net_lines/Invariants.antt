use Rattle.std.proofs.Common.{◌≡◌, ℕ, List, ◌++◌, length, map, Bor}
use Rattle.std.specs.List.{filter_map}
use Rattle.blif_read.specs.Lines.{cleaned, line_of, joined}
use Rattle.blif_read.specs.Joining.{gathered, IsTidy}
use Rattle.blif_read.proofs.lines.net_lines.Given as goal

abbrev pub invariant-loop-line : goal.invariant-loop-line
invariant-loop-line l = record {
  number : l.joiner.number ≡ length l.yielded;
  tidy : IsTidy l.joiner;
  all : (rest : List (List ℕ)) → gathered l.joiner rest ≡ filter_map line_of (joined 1 (map (λ (w : Bor (List ℕ)). cleaned w.now) l.yielded ++ rest));
}
