use Rattle.std.proofs.Common.{◌≡◌, drop}
use Rattle.typing_rules.specs.Checked.{each}
use Rattle.vera_names.specs.Lists.{behind}
use Rattle.typing_rules.specs.Waits.{term}
use Rattle.vera_steps.proofs.waits.terms.Given as goal

abbrev pub invariant-loop-next : goal.invariant-loop-next
invariant-loop-next l = behind l.typed (each (term l.sight) (drop l.next-index l.terms)) ≡ each (term l.sight) l.terms
