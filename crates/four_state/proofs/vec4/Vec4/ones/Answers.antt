use Rattle.std.proofs.Common.{sym, ap, ◌∙◌}
use Rattle.four_state.specs.Words.{ones_of}
use Rattle.four_state.specs.WordsBack.{ones_of-bits_of}
use Rattle.four_state.proofs.vec4.Vec4.ones.Goals as goal

pub returns : goal.returns
returns c = sym (ones_of-bits_of _ _ _ c.self.invariant.ones_fit) ∙ ap ones_of c.self.view_is
