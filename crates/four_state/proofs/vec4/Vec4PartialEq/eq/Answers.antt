use Rattle.std.proofs.Common.{◌≡◌, Decides}
use Rattle.std.proofs.lemmas.Bool.Decides.{same_from_decides}
use Rattle.four_state.specs.Equality.{bits_eq_decides}
use Rattle.four_state.proofs.Words.{same_fields}
use Rattle.four_state.proofs.vec4.Vec4PartialEq.eq.Goals as goal
use Rattle.four_state.proofs.vec4.Vec4PartialEq.eq.Goals.{After-eq}

same : (c : After-eq) → Decides c.eq.result (c.args.self.now ≡ c.args.other.now)
same c = same_fields _ _ _ _ _ _ _ _ _ c.self.invariant c.other.invariant c.self.view_is c.other.view_is c.eq.ensures

pub returns-clause-answer : goal.returns-clause-answer
returns-clause-answer c = same_from_decides _ _ (same c) (bits_eq_decides _ _)

pub returns-clause-same : goal.returns-clause-same
returns-clause-same c = same c
