use Rattle.std.proofs.Common.{◌≡◌, drop}
use Rattle.typing_rules.specs.Bodies.{item_of}
use Rattle.typing_rules.specs.Checked.{each}
use Rattle.vera_names.specs.Lists.{behind}
use Rattle.vera_types.proofs.typing.typed_items.Given as goal

abbrev pub invariant-loop-item : goal.invariant-loop-item
invariant-loop-item l = behind l.typed (each (item_of l.outline l.scopes l.variables) (drop l.item-index l.items)) ≡ each (item_of l.outline l.scopes l.variables) l.items
