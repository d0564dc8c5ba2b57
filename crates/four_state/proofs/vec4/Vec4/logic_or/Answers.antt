use Rattle.four_state.proofs.vec4.Vec4.logic_or.Goals as goal

pub returns : goal.returns
returns c = rw (c.of_logic.ensures, c.or.ensures, c.logic.ensures, c.logic-2.ensures)
