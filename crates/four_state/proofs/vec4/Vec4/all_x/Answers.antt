use Rattle.four_state.proofs.Extending.{bits_of-all_x, bits_of-above}
use Rattle.four_state.proofs.vec4.Vec4.all_x.Goals as goal

pub returns : goal.returns
returns c = let h = bits_of-above in rw c.mask.ensures (bits_of-all_x c.args.width)
