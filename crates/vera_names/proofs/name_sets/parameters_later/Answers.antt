use Rattle.std.proofs.Common.{arith}
use Rattle.vera_names.proofs.NameSets.{later_next, later_end}
use Rattle.vera_names.proofs.name_sets.parameters_later.Goals as goal

pub loop-parameter-preserved : goal.loop-parameter-preserved
loop-parameter-preserved c =
    later_next (λ p. p.name) c.loop-parameter.scope _ _ c.args.parameters.now c.loop-parameter.parameter-index c.parameter-item.result _ (omega arith) c.parameter-item.is c.as_slice.ensures c.loop-parameter.invariant c.in_ok-scope.ensures

pub returns : goal.returns
returns c = later_end (λ p. p.name) c.loop-parameter.scope _ c.args.parameters.now c.loop-parameter.parameter-index (omega arith) c.loop-parameter.invariant
