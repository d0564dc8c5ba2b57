use Rattle.std.proofs.Common.{◌≡◌, drop}
use Rattle.not_built.specs.NotBuilt.{item_lines}
use Rattle.not_built.specs.Passing.{first_in}
use Rattle.not_built.proofs.items.in_items.Given as goal

abbrev pub invariant-loop-item : goal.invariant-loop-item
invariant-loop-item l = first_in item_lines (drop l.item-index l.items) ≡ first_in item_lines l.items
