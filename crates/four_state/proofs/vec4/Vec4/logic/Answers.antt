use Rattle.four_state.proofs.Logic.{logic_one, logic_zero, logic_x}
use Rattle.four_state.proofs.vec4.Vec4.logic.Goals as goal

pub returns-then-self-ne0 : goal.returns-then-self-ne0
returns-then-self-ne0 c = logic_one _ _ _ _ c.self.invariant c.self.view_is c.if-self-ne0.true

pub returns-then-self-eq0 : goal.returns-then-self-eq0
returns-then-self-eq0 c = logic_zero _ _ _ _ c.self.invariant c.self.view_is c.if-self-ne0.false c.if-self-eq0.true

pub returns-else-self-eq0 : goal.returns-else-self-eq0
returns-else-self-eq0 c = logic_x _ _ _ _ c.self.invariant c.self.view_is c.if-self-ne0.false c.if-self-eq0.false
