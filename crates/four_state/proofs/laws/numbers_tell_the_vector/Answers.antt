use Rattle.four_state.proofs.RoundTrips.{number_of-vector_of, from_number, from_signed_number}
use Rattle.four_state.proofs.laws.numbers_tell_the_vector.Goals as goal

pub returns-clause-there : goal.returns-clause-there
returns-clause-there c = number_of-vector_of

pub returns-clause-back : goal.returns-clause-back
returns-clause-back c = from_number

pub returns-clause-signed_back : goal.returns-clause-signed_back
returns-clause-signed_back c = from_signed_number
