use Rattle.std.proofs.Common.{◌≡◌, length, ◌∙◌, arith}
use Rattle.four_state.specs.Texts.{hex_digits}
use Rattle.four_state.proofs.Digits.{no_digits, length-hex_digits}
use Rattle.four_state.proofs.vec4.Vec4.to_hex_text.Goals as goal

pub loop-group-init : goal.loop-group-init
loop-group-init c =
    let groups : c.div_ceil-groups.result ≡ length (hex_digits c.args.self.now) = rw (length-hex_digits, ← c.width.ensures.value) c.div_ceil-groups.ensures in
    record { groups = groups; digits = c.in_ok-digits.ensures.items ∙ no_digits (hex_digits c.args.self.now) c.div_ceil-groups.result (omega arith) }
