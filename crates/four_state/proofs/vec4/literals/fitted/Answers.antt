use Rattle.std.proofs.Common.{◌≡◌, ◌∙◌, min, ◌*◌, refl}
use Rattle.four_state.proofs.LiteralDigits.{whole_width, fitted_words, positive_product}
use Rattle.four_state.proofs.vec4.literals.fitted.Goals as goal

pub returns : goal.returns
returns c =
    let all : c.min-all.result ≡ min 128 (c.args.places * c.args.count) =
    c.min-all.ensures ∙ rw (c.min.ensures, c.from.ensures) (whole_width c.args.places c.args.count c.requires.low) in
    fitted_words (c.args.places * c.args.count) c.args.width c.args.ones c.args.unknown c.min-all.result _ _ (positive_product _ _ c.requires.low c.requires.some) c.requires.width_high all refl c.extend.ensures
