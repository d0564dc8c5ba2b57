-- Lists of one or more, as their code reads them: the first, and then turns of a loop.
use Rattle.std.proofs.Common.{◌≡◌, ℕ, List, [], ◌∷◌, Ok, refl}
use Rattle.grammar_laws.specs.Readers.{Parser, and_then, grown}
use Rattle.vera_ast.specs.declared.token.Token.{Token}
use Rattle.parse_cursor.specs.TokenReading.{many}
use Rattle.parse_cursor.specs.ListReading.{some, after, listed}

pub some_is : {A : Type 0} (codes : List ℕ) (p : Parser Token A) (ts mid : List Token) (first : A) → p ts ≡ Ok (first, mid) → some codes p ts ≡ grown (first ∷ []) (many codes p mid)
unfolding some grown and_then
some_is codes p ts mid first e = rw e refl

pub listed_is : {A : Type 0} (sign : ℕ) (p : Parser Token A) (ts mid : List Token) (first : A) → p ts ≡ Ok (first, mid) → listed sign p ts ≡ grown (first ∷ []) (many (sign ∷ []) (after sign p) mid)
unfolding listed grown and_then
listed_is sign p ts mid first e = rw e refl
