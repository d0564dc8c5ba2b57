use Rattle.std.proofs.Common.{arith, ◌≤◌, ◌≡◌, true, false}
use Rattle.four_state.proofs.Extending.{cut, extended_by_zero, extended_by_top, below_wider}
use Rattle.four_state.proofs.vec4.Vec4.extend.Goals as goal

pub returns-then-width-self : goal.returns-then-width-self
returns-then-width-self c = rw (← c.self.view_is, c.mask-mask.ensures) (cut c.self.inside.width _ _ _ _ c.if-width-self.true)

pub invariant_of-result-then-not-signed : goal.invariant_of-result-then-not-signed
invariant_of-result-then-not-signed c =
    let wider : c.self.inside.width ≤ c.args.width = omega arith in
    record {
      low = c.requires.low;
      high = c.requires.high;
      ones_fit = below_wider _ _ _ c.self.invariant.ones_fit wider;
      unknown_fit = below_wider _ _ _ c.self.invariant.unknown_fit wider;
    }

pub returns-then-not-signed : goal.returns-then-not-signed
returns-then-not-signed c =
    let wider : c.self.inside.width ≤ c.args.width = omega arith in
    let unsigned : c.args.signed ≡ false = c.if-not-signed.true in
    rw (← c.self.view_is, unsigned)
    (extended_by_zero c.self.inside.width _ _ _ c.self.invariant.ones_fit c.self.invariant.unknown_fit wider)

pub returns : goal.returns
returns c =
    let wider : c.self.inside.width ≤ c.args.width = omega arith in
    let is_signed : c.args.signed ≡ true = c.if-not-signed.false in
    rw (← c.self.view_is, is_signed, c.repeat_top.ensures.value, c.repeat_top-2.ensures.value)
    (extended_by_top c.self.inside.width _ _ _ c.self.invariant.low c.self.invariant.ones_fit c.self.invariant.unknown_fit wider)
