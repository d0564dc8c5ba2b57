use Rattle.std.proofs.Common.{◌≡◌, ◌++◌, take, drop}
use Rattle.typing_rules.specs.FileNames.{scope_behind, file_scope}
use Rattle.vera_decls.specs.Files.{AreCounted}
use Rattle.vera_decls.proofs.file_names.file_scope.Given as goal

abbrev pub invariant-loop-item : goal.invariant-loop-item
invariant-loop-item l = record {
  named : l.scope ++ scope_behind (take l.item-index l.items) (drop l.item-index l.items) ≡ file_scope l.items;
  counted : AreCounted (take l.item-index l.items) l.counts;
}
