use Rattle.four_state.proofs.Reductions.{matches_words}
use Rattle.four_state.proofs.vec4.Vec4.matches.Goals as goal

pub returns : goal.returns
returns c = matches_words _ _ _ _ _ _ _ _ c.self.invariant c.other.invariant c.self.view_is c.other.view_is c.requires
