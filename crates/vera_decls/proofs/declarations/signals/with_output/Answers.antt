use Rattle.vera_decls.proofs.ItemParts.{no_output, with_one_output}
use Rattle.vera_decls.proofs.declarations.signals.with_output.Goals as goal

pub returns-in-Output : goal.returns-in-Output
returns-in-Output c = with_one_output c.args.outputs c.args.signal.now _ c.with_name.result c.in-Output.is c.as_slice.ensures c.with_name.ensures

pub returns-in-Input : goal.returns-in-Input
returns-in-Input c = λ before k. no_output before c.args.signal.now c.args.outputs c.in-Input.is k
