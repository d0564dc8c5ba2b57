use Rattle.four_state.specs.Bitwise.{not_of}
use Rattle.four_state.proofs.vec4.Vec4.red_nand.Goals as goal

pub returns : goal.returns
unfolding not_of
returns c = rw (c.bit_not.ensures, c.red_and.ensures)
