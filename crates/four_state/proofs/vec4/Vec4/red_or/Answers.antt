use Rattle.four_state.proofs.Reductions.{combined-or}
use Rattle.four_state.proofs.vec4.Vec4.red_or.Goals as goal

pub returns : goal.returns
returns c = rw (c.of_logic.ensures, c.logic.ensures, combined-or c.args.self.now)
