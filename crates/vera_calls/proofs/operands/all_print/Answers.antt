use Rattle.vera_calls.proofs.FormatParts.{printed_short}
use Rattle.vera_calls.proofs.operands.all_print.Goals as goal

pub returns-in-None : goal.returns-in-None
returns-in-None c = printed_short c.args.letters.now c.args.types.now c.loop-at.at c.in-None.ensures.lookup.3 c.loop-at.invariant
