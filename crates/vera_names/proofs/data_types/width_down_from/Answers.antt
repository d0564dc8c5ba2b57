use Rattle.std.proofs.Common.{sym, arith}
use Rattle.vera_names.proofs.DataTypeSteps.{too_many}
use Rattle.vera_names.proofs.data_types.width_down_from.Goals as goal

pub returns-then-high-gt127 : goal.returns-then-high-gt127
returns-then-high-gt127 c = sym (too_many c.args.high (omega arith))
