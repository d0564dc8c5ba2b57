use Rattle.vera_decls.proofs.Families.{stay, stmts_left, arms_left}
use Rattle.vera_decls.proofs.Going.{Goes}
use Rattle.vera_decls.proofs.declarations.blocks.+blocks.Given as goal

abbrev pub invariant-stmts-loop-next : goal.invariant-stmts-loop-next
invariant-stmts-loop-next l = Goes (stmts_left l.scopes) stay tt l.stmts l.fn.count (λ s. Unit {0}) l.next-index l.count

abbrev pub invariant-arms-loop-arm : goal.invariant-arms-loop-arm
invariant-arms-loop-arm l = Goes (arms_left l.scopes) stay tt l.arms l.fn.count (λ s. Unit {0}) l.arm-index l.count
