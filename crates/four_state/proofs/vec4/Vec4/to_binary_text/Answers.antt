use Rattle.std.proofs.Common.{◌≤◌, ◌∙◌, arith, length, map}
use Rattle.std.proofs.lemmas.List.{length-map}
use Rattle.four_state.specs.Texts.{bit_glyph, binary_text}
use Rattle.four_state.proofs.Digits.{more_digits, all_digits, glyph_at}
use Rattle.four_state.proofs.vec4.Vec4.to_binary_text.Goals as goal

pub loop-at-preserved : goal.loop-at-preserved
loop-at-preserved c =
    let within : c.loop-at.at ≤ length (map bit_glyph c.args.self.now) = rw length-map (omega arith) in
    record {
      width = c.loop-at.invariant.width;
      digits = more_digits (map bit_glyph c.args.self.now) c.loop-at.at _ _ _ c.loop-at-test.true within (glyph_at c.args.self.now _ _ c.bit.ensures) c.loop-at.invariant.digits (rw c.glyph.ensures at c.in_ok-push.ensures.items);
    }

pub returns : goal.returns
unfolding binary_text
returns c = c.of.ensures ∙ all_digits _ _ _ c.loop-at-test.false c.loop-at.invariant.digits
