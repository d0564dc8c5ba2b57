use Rattle.plain_run.proofs.Steps.{printed_at}
use Rattle.plain_run.proofs.evaluate.stmt.take_printf.Goals as goal

pub returns : goal.returns
returns c =
    printed_at c.args.printf.now _ _ _ _ _ _ _ c.as_slice.ensures c.in_ok-arguments.ensures c.as_slice-2.ensures c.as_slice-3.ensures.value c.in_ok-write_format.ensures
