use Rattle.std.proofs.Common.{◌≡◌}
use Rattle.std.specs.Vec.Iter.{into_iter_items}
use Rattle.typing_rules.specs.Checked.{each}
use Rattle.vera_names.specs.Lists.{behind}
use Rattle.vera_steps.specs.SimpleForms.{label}
use Rattle.vera_steps.proofs.labels.labels.Given as goal

abbrev pub invariant-loop-value : goal.invariant-loop-value
invariant-loop-value l = behind l.typed (each (label l.line) (into_iter_items l.value-iterator)) ≡ each (label l.line) l.fn.values
