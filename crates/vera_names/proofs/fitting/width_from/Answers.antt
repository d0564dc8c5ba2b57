use Rattle.std.proofs.Common.{refl, sym}
use Rattle.vera_names.proofs.Widths.{width_of_bits}
use Rattle.vera_names.proofs.fitting.width_from.Goals as goal

pub returns : goal.returns
returns c = sym (width_of_bits c.args.bits _ refl)
