use Rattle.std.proofs.Common.{◌≡◌, ◌++◌}
use Rattle.std.specs.Vec.Iter.{into_iter_items}
use Rattle.typing_rules.specs.Operands.{typed_arguments}
use Rattle.vera_calls.proofs.operands.typed_arguments.Given as goal

abbrev pub invariant-loop-argument : goal.invariant-loop-argument
invariant-loop-argument l = l.typed ++ typed_arguments (into_iter_items l.argument-iterator) ≡ typed_arguments l.fn.arguments.items
