use Rattle.std.proofs.Common.{sym, ap, ◌∙◌, length}
use Rattle.four_state.specs.WordsBack.{length-bits_of}
use Rattle.four_state.proofs.vec4.Vec4.width.Goals as goal

pub returns-clause-value : goal.returns-clause-value
returns-clause-value c = sym (length-bits_of _ _ _) ∙ ap (λ bits. length bits) c.self.view_is
