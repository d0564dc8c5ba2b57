use Rattle.std.proofs.Common.{[]}
use Rattle.vera_decls.proofs.Families.{put_item}
use Rattle.vera_decls.proofs.Going.{Goes}
use Rattle.typing_rules.specs.Declarations.{parts_behind}
use Rattle.typing_rules.specs.FileNames.{file_names, signals_in}
use Rattle.vera_decls.specs.Walks.{OutputsStand}
use Rattle.vera_names.specs.NameSets.{SameNames}
use Rattle.vera_decls.proofs.declarations.declarations.Given as goal

abbrev pub invariant-loop-next : goal.invariant-loop-next
invariant-loop-next l = Goes (parts_behind l.scopes) put_item [] l.items 0 (λ s. SameNames (file_names s) l.filed.names × OutputsStand (signals_in s) l.filed.outputs l.filed.signals) l.next-index l.filed.count
