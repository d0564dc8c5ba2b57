use Rattle.std.proofs.Common.{◌≡◌}
use Rattle.std.specs.Vec.Iter.{into_iter_items}
use Rattle.vera_calls.specs.Splitting.{split_from, nothing}
use Rattle.vera_calls.proofs.split.taken_apart.Given as goal

abbrev pub invariant-loop-argument : goal.invariant-loop-argument
invariant-loop-argument l = split_from l.split (into_iter_items l.argument-iterator) ≡ split_from nothing l.fn.arguments.items
