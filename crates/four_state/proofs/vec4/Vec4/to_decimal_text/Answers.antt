use Rattle.std.proofs.Common.{◌≡◌, sym, true, ◌∙◌, FitsSigned, rules}
use Rattle.std.specs.Int.{w128}
use Rattle.std.proofs.lemmas.Int.{to_z-of_z}
use Rattle.four_state.specs.Texts.{decimal_text}
use Rattle.four_state.specs.Bits.{all_known}
use Rattle.four_state.proofs.Texts.{decimal_unknown, decimal_signed, decimal_unsigned}
use Rattle.four_state.proofs.vec4.Vec4.to_decimal_text.Goals as goal
use Rattle.four_state.proofs.vec4.Vec4.to_decimal_text.Goals.{then-signed, else-signed}

pub returns-then-not-is_known : goal.returns-then-not-is_known
returns-then-not-is_known c =
    rw (decimal_unknown c.args.signed c.args.self.now (sym c.is_known.ensures ∙ c.if-not-is_known.true)) c.from_slice.ensures

pub returns : goal.returns
returns c =
    let known : all_known c.args.self.now ≡ true = sym c.is_known.ensures ∙ c.if-not-is_known.false in
    let text : c.as_bytes.result.now ≡ decimal_text c.args.signed c.args.self.now =
    elim c.if-signed.branch [
      | then-signed w ↦
          let fits : FitsSigned w128 w.signed_number.result = search rules in
          let whole = to_z-of_z w128 w.signed_number.result fits in
          let text = decimal_signed c.args.self.now known in
          cc
      | else-signed w ↦ let text = decimal_unsigned c.args.self.now known in cc
    ]
    in
    rw text at c.from_slice-2.ensures
