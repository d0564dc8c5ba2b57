use Rattle.std.proofs.Common.{[]}
use Rattle.vera_decls.proofs.Families.{put_decl}
use Rattle.vera_decls.proofs.Going.{Goes}
use Rattle.typing_rules.specs.Declarations.{decl_parts}
use Rattle.vera_names.specs.NameSets.{SameNames}
use Rattle.vera_decls.proofs.declarations.variables.decls.Given as goal

abbrev pub invariant-loop-next : goal.invariant-loop-next
invariant-loop-next l = Goes (decl_parts l.scopes) put_decl [] l.decls l.fn.count (λ s. SameNames s l.walked.names) l.next-index l.walked.count
