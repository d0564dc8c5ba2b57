use Rattle.std.proofs.Common.{sym, ◌∙◌}
use Rattle.vera_names.proofs.NameViews.{name_found, name_missing}
use Rattle.vera_names.proofs.constants.name_known.Goals as goal

pub returns-in-Some : goal.returns-in-Some
returns-in-Some c = name_found _ _ _ _ (sym c.is_word.ensures ∙ c.if-is_word.false) (sym c.meaning.ensures ∙ c.in-Some.is)

pub returns-in-None : goal.returns-in-None
returns-in-None c = name_missing _ _ _ (sym c.is_word.ensures ∙ c.if-is_word.false) (sym c.meaning.ensures ∙ c.in-None.is)
