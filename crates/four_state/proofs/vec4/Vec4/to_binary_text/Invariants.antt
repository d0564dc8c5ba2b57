use Rattle.std.proofs.Common.{◌≡◌, length, reverse, drop, map}
use Rattle.four_state.specs.Texts.{bit_glyph}
use Rattle.four_state.proofs.vec4.Vec4.to_binary_text.Given as goal

abbrev pub invariant-loop-at : goal.invariant-loop-at
invariant-loop-at l = record {
  width : l.width ≡ length l.self;
  digits : l.digits.items ≡ reverse (drop l.at (map bit_glyph l.self));
}
