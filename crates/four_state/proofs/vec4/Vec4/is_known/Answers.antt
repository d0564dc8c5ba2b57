use Rattle.std.proofs.Common.{sym}
use Rattle.four_state.proofs.Numbers.{all_known-bits_of}
use Rattle.four_state.proofs.vec4.Vec4.is_known.Goals as goal

pub returns : goal.returns
returns c = rw (← c.self.view_is) (sym (all_known-bits_of c.self.inside.width _ _ c.self.invariant.unknown_fit))
