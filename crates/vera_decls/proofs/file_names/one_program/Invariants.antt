use Rattle.std.proofs.Common.{◌≡◌, ◌++◌, drop}
use Rattle.vera_decls.specs.Files.{found_in}
use Rattle.typing_rules.specs.FileNames.{programs_in}
use Rattle.typing_rules.specs.Typing.{one_of, one_program}
use Rattle.vera_decls.proofs.file_names.one_program.Given as goal

abbrev pub invariant-loop-item : goal.invariant-loop-item
invariant-loop-item l = one_of (found_in l.found ++ programs_in (drop l.item-index l.items)) ≡ one_program l.items
