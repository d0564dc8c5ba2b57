use Rattle.std.proofs.Common.{[]}
use Rattle.slice_core.proofs.Noted.{notes-once, writes-once}
use Rattle.slice_core.proofs.laws.each_place_once.Goals as goal

pub returns-clause-notes : goal.returns-clause-notes
returns-clause-notes g c = λ t c. notes-once t c [] [] [] tt

pub returns-clause-writes : goal.returns-clause-writes
returns-clause-writes g c = λ t c. writes-once t c [] [] [] tt
