use Rattle.four_state.proofs.Numbers.{masked}
use Rattle.four_state.proofs.vec4.Vec4.of_number.Goals as goal

pub returns : goal.returns
returns c = masked c.args.width c.args.value c.mask.result c.mask.ensures
