use Rattle.std.proofs.Common.{◌≡◌, drop}
use Rattle.typing_rules.specs.Checked.{each}
use Rattle.typing_rules.specs.Expressions.{expr}
use Rattle.vera_names.specs.Lists.{behind}
use Rattle.vera_steps.proofs.labels.exprs.Given as goal

abbrev pub invariant-loop-value : goal.invariant-loop-value
invariant-loop-value l = behind l.typed (each (expr l.sight) (drop l.value-index l.values)) ≡ each (expr l.sight) l.values
