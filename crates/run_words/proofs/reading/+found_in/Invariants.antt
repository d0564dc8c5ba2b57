use Rattle.std.proofs.Common.{length}
use Rattle.run_words.proofs.reading.+found_in.Given as goal

abbrev pub decreases-found_in : goal.decreases-found_in
decreases-found_in l = length l.words.now
