use Rattle.std.proofs.Common.{arith}
use Rattle.std.proofs.lemmas.Result.{err_from_is_err_and}
use Rattle.vera_decls.proofs.VariableSteps.{types_next, types_stopped, types_refused, types_all}
use Rattle.vera_decls.proofs.variables.variable_types.Goals as goal

pub loop-variable-preserved : goal.loop-variable-preserved
loop-variable-preserved c = λ stand same.
    rw c.in_ok-push.ensures.items
    (types_next c.args.scopes.now c.args.of stand c.args.variables.now c.loop-variable.names c.loop-variable.types.items c.loop-variable.variable-index c.variable-item.result c.in_ok-next.next _ c.in_ok-names.names
    (omega arith) c.variable-item.is c.as_slice.ensures (c.loop-variable.invariant stand same) (λ s k. c.in_ok-next.ensures s k) (λ s k. c.in_ok-names.ensures s k))

pub returns-in_err-next : goal.returns-in_err-next
returns-in_err-next c = λ stand same.
    let p = err_from_is_err_and c.from_residual.result c.from_residual.ensures.1 in
    rw (p.1, p.2)
    (types_stopped c.args.scopes.now c.args.of stand c.args.variables.now _ (types_refused c.args.scopes.now c.args.of stand c.args.variables.now c.loop-variable.names c.loop-variable.types.items c.loop-variable.variable-index c.variable-item.result _ (omega arith) c.variable-item.is
    (c.loop-variable.invariant stand same) (λ s k. c.in_err-next.ensures s k)))

pub returns : goal.returns
returns c = λ stand same.
    let all = types_all c.args.scopes.now c.args.of stand c.args.variables.now c.loop-variable.names c.loop-variable.types.items c.loop-variable.variable-index (omega arith) (c.loop-variable.invariant stand same) in
    (rw c.of.ensures all.0, all.1)
