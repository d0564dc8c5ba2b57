use Rattle.std.proofs.Common.{◌≡◌, ◌++◌}
use Rattle.std.specs.Vec.Iter.{into_iter_items}
use Rattle.typing_rules.specs.Productions.{exprs_of}
use Rattle.vera_values.proofs.productions.exprs_of.Given as goal

abbrev pub invariant-loop-part : goal.invariant-loop-part
invariant-loop-part l = l.exprs ++ exprs_of (into_iter_items l.part-iterator) ≡ exprs_of l.fn.parts.items
