use Rattle.std.proofs.Common.{[]}
use Rattle.slice_core.proofs.SameSlice.{frame_from}
use Rattle.slice_core.proofs.laws.frame.Goals as goal

pub returns : goal.returns
returns g c = λ t c d h. frame_from t c d [] [] [] (λ l v none. absurd cc) h
