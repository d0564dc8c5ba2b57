use Rattle.std.proofs.Common.{arith}
use Rattle.vera_names.proofs.NameSets.{later_next, later_end}
use Rattle.vera_names.proofs.name_sets.with_variables.Goals as goal

pub loop-variable-preserved : goal.loop-variable-preserved
loop-variable-preserved c =
    later_next (λ v. v.name) c.loop-variable.scope _ _ c.args.variables.now c.loop-variable.variable-index c.variable-item.result _ (omega arith) c.variable-item.is c.as_slice.ensures c.loop-variable.invariant c.in_ok-scope.ensures

pub returns : goal.returns
returns c = later_end (λ v. v.name) c.loop-variable.scope _ c.args.variables.now c.loop-variable.variable-index (omega arith) c.loop-variable.invariant
