use Rattle.std.proofs.Common.{◌≡◌, ◌∙◌, sym, arith, refl, length, get_or}
use Rattle.four_state.proofs.DecimalLiterals.{decimal_none, decimal_skip, decimal_more, decimal_fails, decimal_all, step_small}
use Rattle.four_state.proofs.vec4.literals.decimal_number.Goals as goal
use Rattle.four_state.proofs.vec4.literals.decimal_number.Goals.{then-digit-ne95+in_ok-number, else-digit-ne95}

pub loop-digit-init : goal.loop-digit-init
loop-digit-init c = record { read = decimal_none c.args.digits.now; small = omega arith }

pub loop-digit-preserved : goal.loop-digit-preserved
loop-digit-preserved c =
    elim c.if-digit-ne95.branch [
      | then-digit-ne95+in_ok-number w ↦
          rw w.number-is (record {
            read = decimal_more c.args.digits.now c.loop-digit.digit-index _ c.loop-digit.number _ _ c.loop-digit.invariant.read c.loop-digit-test.true refl w.if-digit-ne95.true (sym w.in_ok-number.ensures);
            small = step_small (get_or c.args.digits.now c.loop-digit.digit-index 0) c.loop-digit.number _ (sym w.in_ok-number.ensures);
          })
      | else-digit-ne95 w ↦
          rw w.number-is (record {
            read = decimal_skip c.args.digits.now c.loop-digit.digit-index _ c.loop-digit.number _ c.loop-digit.invariant.read c.loop-digit-test.true refl w.if-digit-ne95.false;
            small = c.loop-digit.invariant.small;
          })
    ]

pub returns-in_err-number : goal.returns-in_err-number
returns-in_err-number c =
    c.from_residual.ensures ∙ decimal_fails c.args.digits.now c.loop-digit.digit-index _ c.loop-digit.number _ c.loop-digit.invariant.read c.loop-digit-test.true refl c.if-digit-ne95.true (sym c.in_err-number.ensures)

pub returns : goal.returns
returns c =
    let e : c.loop-digit.digit-index ≡ length c.args.digits.now = omega arith in
    decimal_all c.args.digits.now c.loop-digit.digit-index c.loop-digit.number _ c.loop-digit.invariant.read e c.loop-digit.invariant.small
