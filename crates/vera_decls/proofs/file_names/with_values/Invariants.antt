use Rattle.std.proofs.Common.{◌≡◌, ◌++◌, drop}
use Rattle.typing_rules.specs.FileNames.{values_from}
use Rattle.vera_decls.proofs.file_names.with_values.Given as goal

abbrev pub invariant-loop-name : goal.invariant-loop-name
invariant-loop-name l = l.scope ++ values_from l.enumeration l.value (drop l.name-index l.values) ≡ l.initial.scope ++ values_from l.enumeration 0 l.values
