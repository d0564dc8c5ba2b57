use Rattle.std.proofs.Common.{◌≡◌, drop}
use Rattle.typing_rules.specs.Blocks.{typed_decl}
use Rattle.typing_rules.specs.Checked.{each}
use Rattle.vera_names.specs.Lists.{behind}
use Rattle.vera_types.proofs.blocks.typed_decls.Given as goal

abbrev pub invariant-loop-decl : goal.invariant-loop-decl
invariant-loop-decl l = behind l.typed (each (typed_decl l.sight) (drop l.decl-index l.decls)) ≡ each (typed_decl l.sight) l.decls
