use Rattle.four_state.proofs.Numbers.{known_number}
use Rattle.four_state.proofs.vec4.Vec4.number.Goals as goal

pub returns : goal.returns
returns c = known_number _ _ _ _ c.self.invariant c.self.view_is c.requires
