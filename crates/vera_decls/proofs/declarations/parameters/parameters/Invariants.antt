use Rattle.std.proofs.Common.{◌≡◌, []}
use Rattle.vera_decls.proofs.Families.{put_parameter, parameters_left}
use Rattle.vera_decls.proofs.Going.{Goes}
use Rattle.vera_names.specs.NameSets.{SameNames}
use Rattle.vera_decls.proofs.declarations.parameters.parameters.Given as goal

abbrev pub invariant-loop-at : goal.invariant-loop-at
invariant-loop-at l = Goes (parameters_left l.scopes) put_parameter (0, []) l.parameters l.fn.count (λ s. (s.0 ≡ l.at) × SameNames s.1 l.walked.names) l.at l.walked.count
