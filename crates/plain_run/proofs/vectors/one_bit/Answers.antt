use Rattle.std.proofs.Common.{[], ◌∷◌, ap, sym, ◌∙◌}
use Rattle.four_state.specs.Words.{bits_of}
use Rattle.plain_run.proofs.vectors.one_bit.Goals as goal

pub returns-in-Zero : goal.returns-in-Zero
unfolding bits_of
returns-in-Zero c = c.of_words.ensures ∙ ap (λ b. b ∷ []) (sym c.in-Zero.is)

pub returns-in-One : goal.returns-in-One
unfolding bits_of
returns-in-One c = c.of_words-in-One.ensures ∙ ap (λ b. b ∷ []) (sym c.in-One.is)

pub returns-in-X : goal.returns-in-X
unfolding bits_of
returns-in-X c = c.of_words-in-X.ensures ∙ ap (λ b. b ∷ []) (sym c.in-X.is)

pub returns-in-Z : goal.returns-in-Z
unfolding bits_of
returns-in-Z c = c.of_words-in-Z.ensures ∙ ap (λ b. b ∷ []) (sym c.in-Z.is)
