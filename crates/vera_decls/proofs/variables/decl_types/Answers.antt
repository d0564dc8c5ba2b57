use Rattle.std.proofs.Common.{arith}
use Rattle.std.proofs.lemmas.Result.{err_from_is_err_and}
use Rattle.vera_decls.proofs.VariableSteps.{decls_start, decls_next, decls_no_type, decls_refused, decls_all}
use Rattle.vera_decls.proofs.variables.decl_types.Goals as goal

pub loop-decl-init : goal.loop-decl-init
loop-decl-init c = decls_start c.args.scopes.now c.args.decls.now c.new-names.result c.new-all.result.items c.new-names.ensures c.new-all.ensures.items

pub loop-decl-preserved : goal.loop-decl-preserved
loop-decl-preserved c =
    rw c.in_ok-push.ensures.items
    (decls_next c.args.scopes.now c.args.decls.now c.loop-decl.names c.loop-decl.all.items c.loop-decl.decl-index c.decl-item.result c.in_ok-of.of c.in_ok-told.told.types _ c.in_ok-told.told.names (omega arith) c.decl-item.is
    c.as_slice.ensures c.loop-decl.invariant c.in_ok-of.ensures (λ s k. c.in_ok-told.ensures s k))

pub returns-in_err-of : goal.returns-in_err-of
returns-in_err-of c =
    let p = err_from_is_err_and c.from_residual.result c.from_residual.ensures.1 in
    rw (p.1, p.2)
    (decls_no_type c.args.scopes.now c.args.decls.now c.loop-decl.names c.loop-decl.all.items c.loop-decl.decl-index c.decl-item.result _ (omega arith) c.decl-item.is c.loop-decl.invariant c.in_err-of.ensures)

pub returns-in_err-told : goal.returns-in_err-told
returns-in_err-told c =
    let p = err_from_is_err_and c.from_residual-in_err-told.result c.from_residual-in_err-told.ensures.1 in
    rw (p.1, p.2)
    (decls_refused c.args.scopes.now c.args.decls.now c.loop-decl.names c.loop-decl.all.items c.loop-decl.decl-index c.decl-item.result c.in_ok-of.of _ _ (omega arith) c.decl-item.is c.as_slice.ensures c.loop-decl.invariant
    c.in_ok-of.ensures (λ s k. c.in_err-told.ensures s k))

pub returns : goal.returns
returns c = rw c.of.ensures (decls_all c.args.scopes.now c.args.decls.now c.loop-decl.names c.loop-decl.all.items c.loop-decl.decl-index (omega arith) c.loop-decl.invariant)
