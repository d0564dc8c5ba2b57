use Rattle.std.proofs.Common.{arith}
use Rattle.vera_calls.proofs.FormatParts.{told_end}
use Rattle.vera_calls.proofs.formats.is_format.Goals as goal

pub returns : goal.returns
returns c = told_end c.args.bytes.now c.loop-byte.byte-index c.loop-byte.begun c.is_closed.result (omega arith) c.loop-byte.invariant c.is_closed.ensures
