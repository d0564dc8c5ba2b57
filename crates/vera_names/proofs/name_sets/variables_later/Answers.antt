use Rattle.std.proofs.Common.{arith}
use Rattle.vera_names.proofs.NameSets.{decls_later_next, decls_later_end}
use Rattle.vera_names.proofs.name_sets.variables_later.Goals as goal

pub loop-decl-preserved : goal.loop-decl-preserved
loop-decl-preserved c =
    decls_later_next c.loop-decl.scope _ _ c.args.decls.now c.loop-decl.decl-index c.decl-item.result _ (omega arith) c.decl-item.is c.as_slice.ensures c.loop-decl.invariant c.in_ok-scope.ensures

pub returns : goal.returns
returns c = decls_later_end c.loop-decl.scope _ c.args.decls.now c.loop-decl.decl-index (omega arith) c.loop-decl.invariant
