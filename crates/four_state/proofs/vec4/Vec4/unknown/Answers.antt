use Rattle.std.proofs.Common.{sym, ap, ◌∙◌}
use Rattle.four_state.specs.Words.{unknown_of}
use Rattle.four_state.specs.WordsBack.{unknown_of-bits_of}
use Rattle.four_state.proofs.vec4.Vec4.unknown.Goals as goal

pub returns : goal.returns
returns c = sym (unknown_of-bits_of _ _ _ c.self.invariant.unknown_fit) ∙ ap unknown_of c.self.view_is
