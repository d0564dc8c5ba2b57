use Rattle.source_names.proofs.laws.words_are_plain.Goals as goal
use Rattle.source_names.proofs.LexedWords.{plain_words}

pub returns : goal.returns
returns c = plain_words
