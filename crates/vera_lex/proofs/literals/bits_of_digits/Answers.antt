use Rattle.std.proofs.Common.{arith, refl, ◌∙◌}
use Rattle.vera_lex.proofs.Digits.{bits_more, plain_skip}
use Rattle.vera_lex.proofs.literals.bits_of_digits.Goals as goal
use Rattle.vera_lex.proofs.literals.bits_of_digits.Goals.{then-digit-ne95, else-digit-ne95}

pub loop-digit-preserved : goal.loop-digit-preserved
loop-digit-preserved c = elim c.if-digit-ne95.branch [
  | then-digit-ne95 w ↦
      let small = c.loop-digit.invariant.small in
      let added = w.further_bits.ensures.within in
      let same = w.from-bits.ensures in
      record {
        read = rw w.bits-is (bits_more c.args.digits.now c.loop-digit.digit-index _ c.loop-digit.bits w.from-bits.result c.args.places _ c.loop-digit-test.true refl w.if-digit-ne95.true (w.from-bits.ensures ∙ w.further_bits.ensures.value) c.loop-digit.invariant.read);
        small = rw w.bits-is (omega arith);
      }
  | else-digit-ne95 w ↦
      let small = c.loop-digit.invariant.small in
      record {
        read = rw (w.bits-is, ← plain_skip c.args.digits.now c.loop-digit.digit-index _ c.loop-digit-test.true refl w.if-digit-ne95.false) c.loop-digit.invariant.read;
        small = rw w.bits-is (omega arith);
      }
]
