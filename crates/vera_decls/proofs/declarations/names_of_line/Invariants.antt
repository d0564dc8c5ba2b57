use Rattle.std.proofs.Common.{List}
use Rattle.vera_decls.proofs.Families.{put_name}
use Rattle.vera_decls.proofs.Going.{Goes}
use Rattle.typing_rules.specs.Declarations.{name_parts}
use Rattle.typing_rules.specs.Scopes.{Name}
use Rattle.vera_names.specs.NameSets.{SameNames}
use Rattle.vera_decls.proofs.declarations.names_of_line.Given as goal

abbrev pub invariant-loop-next : goal.invariant-loop-next
invariant-loop-next l = (stand : List Name) → SameNames stand l.fn.before → Goes (name_parts l.line) put_name stand l.names l.fn.count (λ s. SameNames s l.walked.names) l.next-index l.walked.count
