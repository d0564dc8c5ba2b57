-- Variables that aren't built.
use Rattle.std.proofs.Common.{◌≡◌, ◌≢◌, ℕ, List, refl}
use Rattle.four_state.specs.declared.bit.Bit.{Bit}
use Rattle.store_api.specs.Places.{Contents}
use Rattle.vera_ast.specs.declared.typed.names.VariablePlace.{VariablePlace}
use Rattle.vera_ast.specs.declared.typed.names.VariablePlace.TheVariants.{Program}
use Rattle.vera_meaning.specs.Expressions.{place_of}
use Rattle.plain_run.specs.Values.{written}

pub unwritten : (place : VariablePlace) (bits : List Bit) (c : Contents) → ((n : ℕ) → place ≢ Program n) → c ≡ written (place_of place) bits c
unwritten (Program n) bits c other = absurd (other n refl)
unwritten place bits c other = refl
