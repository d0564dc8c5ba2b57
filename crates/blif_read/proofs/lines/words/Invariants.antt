use Rattle.std.proofs.Common.{◌≡◌, ℕ, List, length, map}
use Rattle.std.specs.List.{filter}
use Rattle.std.specs.Prelude.{not, ◌==◌}
use Rattle.blif_read.proofs.lines.words.Given as goal

abbrev pub invariant-loop-word : goal.invariant-loop-word
invariant-loop-word l = l.found.items ≡ filter (λ (w : List ℕ). not (length w == 0)) (map (λ w. w.now) l.yielded)
