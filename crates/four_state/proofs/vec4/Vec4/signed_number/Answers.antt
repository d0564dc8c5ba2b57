use Rattle.std.proofs.Common.{arith}
use Rattle.std.proofs.lemmas.Int.{ints}
use Rattle.four_state.proofs.Signs.{known_signed_number}
use Rattle.four_state.proofs.vec4.Vec4.signed_number.Goals as goal

pub returns : goal.returns
returns c =
    let value = known_signed_number _ _ _ _ c.self.invariant c.self.view_is c.requires in
    omega (arith, ints, rw c.repeat_top.ensures.value at c.cast_signed.ensures, value)
