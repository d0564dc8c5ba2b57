use Rattle.std.proofs.Common.{rules, FitsSigned}
use Rattle.std.specs.Int.{w128}
use Rattle.std.proofs.lemmas.Int.{to_z-of_z}
use Rattle.four_state.specs.Numbers.{signed_numbers_of}
use Rattle.four_state.proofs.vec4.Vec4.signed_numbers.Goals as goal

pub returns-then-both_known : goal.returns-then-both_known
unfolding signed_numbers_of
returns-then-both_known c =
    let first : FitsSigned w128 c.signed_number.result = search rules in
    let second : FitsSigned w128 c.signed_number-then-both_known.result = search rules in
    rw (to_z-of_z w128 c.signed_number.result first, to_z-of_z w128 c.signed_number-then-both_known.result second, c.signed_number.ensures, c.signed_number-then-both_known.ensures, ← c.both_known.ensures, c.if-both_known.true)

pub returns-else-both_known : goal.returns-else-both_known
unfolding signed_numbers_of
returns-else-both_known c = rw (← c.both_known.ensures, c.if-both_known.false)
