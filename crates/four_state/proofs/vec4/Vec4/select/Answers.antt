use Rattle.four_state.proofs.Shifts.{select_words}
use Rattle.four_state.proofs.vec4.Vec4.select.Goals as goal

pub returns : goal.returns
returns c =
    select_words _ _ _ _ c.self.invariant c.self.view_is _ _ _ _ _ c.requires.order c.requires.within c.mask.ensures c.mask-2.ensures c.mask-outside.ensures
