use Rattle.std.proofs.Common.{arith, ◌≤◌, ◌^◌}
use Rattle.std.proofs.Math.Pow.{pow_mono}
use Rattle.std.proofs.lemmas.Nat.{pow_pos}
use Rattle.four_state.proofs.Extending.{below_wider}
use Rattle.four_state.proofs.vec4.repeat_top.Goals as goal

pub overflow_sub-result : goal.overflow_sub-result
overflow_sub-result c =
    let wider : 2 ^ c.args.width ≤ 2 ^ c.args.wider = pow_mono c.requires.wider in
    omega arith

pub returns-then-word-width-eq0-clause-within : goal.returns-then-word-width-eq0-clause-within
returns-then-word-width-eq0-clause-within c = below_wider _ _ _ c.requires.fits c.requires.wider

pub returns-else-word-width-eq0-clause-within : goal.returns-else-word-width-eq0-clause-within
returns-else-word-width-eq0-clause-within c =
    let wider : 2 ^ c.args.width ≤ 2 ^ c.args.wider = pow_mono c.requires.wider in
    let positive = pow_pos c.args.width in
    omega arith
