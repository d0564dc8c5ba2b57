use Rattle.std.proofs.Common.{arith}
use Rattle.vera_decls.proofs.FileSteps.{value_next, values_end}
use Rattle.vera_decls.proofs.file_names.with_values.Goals as goal

pub loop-name-preserved : goal.loop-name-preserved
loop-name-preserved c =
    value_next c.loop-name.scope _ c.args.enumeration c.loop-name.value c.in_ok-value.value c.loop-name.name-index c.args.values.now c.name-item.result _ c.in_ok-scope.scope (omega arith) c.name-item.is c.as_slice.ensures
    c.loop-name.invariant c.in_ok-scope.ensures c.in_ok-value.ensures

pub returns : goal.returns
returns c = values_end c.loop-name.scope _ c.args.enumeration c.loop-name.value c.loop-name.name-index c.args.values.now (omega arith) c.loop-name.invariant
