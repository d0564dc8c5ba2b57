use Rattle.std.proofs.Common.{[]}
use Rattle.slice_core.proofs.SameSlice.{on-holds}
use Rattle.slice_core.proofs.laws.notes_hold.Goals as goal

pub returns : goal.returns
returns g c = λ t c. on-holds t c [] [] [] (λ l v none. absurd cc)
