use Rattle.std.proofs.Common.{◌≡◌, ◌∙◌, arith, refl, length}
use Rattle.four_state.proofs.LiteralReads.{read_none, read_skip, read_more, read_all, read_fails}
use Rattle.four_state.proofs.vec4.literals.by_places.Goals as goal
use Rattle.four_state.proofs.vec4.literals.by_places.Goals.{then-digit-ne95+in_ok-ones, else-digit-ne95}

pub loop-digit-init : goal.loop-digit-init
loop-digit-init c = record { read = read_none c.args.places c.args.digits.now; counted = omega arith }

pub loop-digit-preserved : goal.loop-digit-preserved
loop-digit-preserved c =
    elim c.if-digit-ne95.branch [
      | then-digit-ne95+in_ok-ones w ↦
          record {
            read = rw (w.ones-is, w.unknown-is, w.count-is) (read_more c.args.places c.loop-digit.digit-index c.loop-digit.count c.loop-digit.ones c.loop-digit.unknown _ _ _ c.args.digits.now c.loop-digit.invariant.read c.loop-digit-test.true refl w.if-digit-ne95.true w.in_ok-ones.ensures.some);
            counted = omega (arith, c.loop-digit.invariant.counted, w.count-is);
          }
      | else-digit-ne95 w ↦
          record {
            read = rw (w.ones-is, w.unknown-is, w.count-is) (read_skip c.args.places c.loop-digit.digit-index c.loop-digit.count c.loop-digit.ones c.loop-digit.unknown _ c.args.digits.now c.loop-digit.invariant.read c.loop-digit-test.true refl w.if-digit-ne95.false);
            counted = omega (arith, c.loop-digit.invariant.counted, w.count-is);
          }
    ]

pub returns-in_err-ones : goal.returns-in_err-ones
returns-in_err-ones c =
    c.from_residual.ensures ∙ read_fails c.args.places c.args.width c.loop-digit.digit-index c.loop-digit.count c.loop-digit.ones c.loop-digit.unknown _ c.args.digits.now c.requires.high c.loop-digit.invariant.read c.loop-digit-test.true refl c.if-digit-ne95.true c.in_err-ones.ensures.none

pub returns : goal.returns
returns c =
    let e : c.loop-digit.digit-index ≡ length c.args.digits.now = omega arith in
    read_all c.args.places c.args.width c.loop-digit.count c.loop-digit.ones c.loop-digit.unknown c.args.digits.now c.fitted.result (rw e at c.loop-digit.invariant.read) c.fitted.ensures
