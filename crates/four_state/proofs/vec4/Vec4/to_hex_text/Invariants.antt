use Rattle.std.proofs.Common.{◌≡◌, length, reverse, drop}
use Rattle.four_state.specs.Texts.{hex_digits}
use Rattle.four_state.proofs.vec4.Vec4.to_hex_text.Given as goal

abbrev pub invariant-loop-group : goal.invariant-loop-group
invariant-loop-group l = record {
  groups : l.groups ≡ length (hex_digits l.self);
  digits : l.digits.items ≡ reverse (drop l.group (hex_digits l.self));
}
