use Rattle.std.proofs.Common.{◌≡◌, drop}
use Rattle.not_built.specs.NotBuilt.{unchecked_lines}
use Rattle.not_built.specs.Passing.{first_in}
use Rattle.not_built.proofs.unchecked.in_items.Given as goal

abbrev pub invariant-loop-item : goal.invariant-loop-item
invariant-loop-item l = first_in unchecked_lines (drop l.item-index l.items) ≡ first_in unchecked_lines l.items
