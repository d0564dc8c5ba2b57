use Rattle.four_state.proofs.RoundTrips.{from_words}
use Rattle.four_state.proofs.laws.parts_tell_the_vector.Goals as goal

pub returns : goal.returns
returns c = from_words
