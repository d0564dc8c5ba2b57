use Rattle.four_state.proofs.DecimalLiterals.{bits_of-z}
use Rattle.four_state.proofs.vec4.literals.all_z.Goals as goal

pub returns : goal.returns
returns c = bits_of-z c.args.width c.mask-all.result c.mask-all.ensures
