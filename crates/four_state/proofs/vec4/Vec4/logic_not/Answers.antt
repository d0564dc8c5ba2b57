use Rattle.four_state.proofs.vec4.Vec4.logic_not.Goals as goal

pub returns : goal.returns
returns c = rw (c.of_logic.ensures, c.not.ensures, c.logic.ensures)
