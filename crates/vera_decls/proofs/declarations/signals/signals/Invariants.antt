use Rattle.std.proofs.Common.{[], List}
use Rattle.vera_ast.specs.declared.tree.interfaces.Signal.{Signal}
use Rattle.vera_decls.proofs.Families.{put_signal, signals_left}
use Rattle.vera_decls.proofs.Going.{Goes}
use Rattle.vera_decls.specs.Walks.{OutputsStand}
use Rattle.vera_names.specs.NameSets.{SameNames}
use Rattle.vera_decls.proofs.declarations.signals.signals.Given as goal

abbrev pub invariant-loop-next : goal.invariant-loop-next
invariant-loop-next l = (before : List Signal) → OutputsStand before l.fn.outputs l.fn.signals
    → Goes (signals_left l.scopes) put_signal (before, []) l.list l.fn.count (λ s. OutputsStand s.0 l.walked.outputs l.walked.signals × SameNames s.1 l.walked.names) l.next-index l.walked.count
