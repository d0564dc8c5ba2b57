use Rattle.std.proofs.Common.{refl}
use Rattle.token_names.proofs.Named.{words_are, signs_are}
use Rattle.token_names.proofs.names_stand_for_their_tokens.Goals as goal

pub returns-clause-words : goal.returns-clause-words
returns-clause-words c = words_are

pub returns-clause-signs : goal.returns-clause-signs
returns-clause-signs c = signs_are

pub returns-clause-all_words : goal.returns-clause-all_words
returns-clause-all_words c = refl

pub returns-clause-all_signs : goal.returns-clause-all_signs
returns-clause-all_signs c = refl
