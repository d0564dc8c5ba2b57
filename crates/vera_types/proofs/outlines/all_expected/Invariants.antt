use Rattle.std.proofs.Common.{◌≡◌, drop}
use Rattle.typing_rules.specs.Checked.{each}
use Rattle.typing_rules.specs.Typing.{expected}
use Rattle.vera_names.specs.Lists.{behind}
use Rattle.vera_types.proofs.outlines.all_expected.Given as goal

abbrev pub invariant-loop-parameter : goal.invariant-loop-parameter
invariant-loop-parameter l = behind l.found (each (expected l.scopes) (drop l.parameter-index l.parameters)) ≡ each (expected l.scopes) l.parameters
