use Rattle.std.proofs.Common.{◌≡◌, drop}
use Rattle.typing_rules.specs.Typing.{functions_in}
use Rattle.vera_names.specs.Lists.{behind}
use Rattle.vera_types.proofs.outlines.functions_in.Given as goal

abbrev pub invariant-loop-item : goal.invariant-loop-item
invariant-loop-item l = behind l.routines.items (functions_in l.scopes (drop l.item-index l.items)) ≡ functions_in l.scopes l.items
