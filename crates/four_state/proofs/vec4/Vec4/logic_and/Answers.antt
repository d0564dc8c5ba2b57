use Rattle.four_state.proofs.vec4.Vec4.logic_and.Goals as goal

pub returns : goal.returns
returns c = rw (c.of_logic.ensures, c.and.ensures, c.logic.ensures, c.logic-2.ensures)
