use Rattle.std.proofs.Common.{◌≡◌, drop}
use Rattle.typing_rules.specs.Typing.{interfaces_in}
use Rattle.vera_names.specs.Lists.{behind}
use Rattle.vera_types.proofs.outlines.interfaces_in.Given as goal

abbrev pub invariant-loop-item : goal.invariant-loop-item
invariant-loop-item l = behind l.known.interfaces.items (interfaces_in l.scopes l.known.count (drop l.item-index l.items)) ≡ interfaces_in l.scopes 0 l.items
