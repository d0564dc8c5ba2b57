use Rattle.std.proofs.Common.{drop}
use Rattle.vera_decls.proofs.VariableSteps.{DeclsSoFar}
use Rattle.vera_decls.proofs.variables.decl_types.Given as goal

abbrev pub invariant-loop-decl : goal.invariant-loop-decl
invariant-loop-decl l = DeclsSoFar l.scopes l.decls l.names l.all.items (drop l.decl-index l.decls)
