use Rattle.std.proofs.Common.{length}
use Rattle.run_words.proofs.reading.+names_in.Given as goal

abbrev pub decreases-names_in : goal.decreases-names_in
decreases-names_in l = length l.words.now
