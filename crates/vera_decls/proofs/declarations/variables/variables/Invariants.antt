use Rattle.std.proofs.Common.{◌≡◌, List, Ok}
use Rattle.vera_ast.specs.declared.tree.declarations.DataType.{DataType}
use Rattle.vera_decls.proofs.Families.{put_variable, variables_left}
use Rattle.vera_decls.proofs.Going.{Goes}
use Rattle.typing_rules.specs.DataTypes.{data_type}
use Rattle.typing_rules.specs.Scopes.{Name}
use Rattle.vera_names.specs.NameSets.{SameNames}
use Rattle.vera_decls.proofs.declarations.variables.variables.Given as goal

abbrev pub invariant-loop-next : goal.invariant-loop-next
invariant-loop-next l = (d : DataType) → data_type l.scopes d ≡ Ok l.of → (stand : List Name) → SameNames stand l.fn.before
    → Goes (variables_left l.scopes d) put_variable stand l.variables l.fn.count (λ s. SameNames s l.walked.names) l.next-index l.walked.count
