-- Numbers of signs.
use Rattle.std.proofs.Common.{◌≡◌, ℕ, ◌<◌, List, [], Some}
use Rattle.std.specs.Str.{bytes_eq}
use Rattle.std.proofs.lemmas.List.Quantifiers.{position-Some}
use Rattle.vera_ast.specs.Signs.{signs}
use Rattle.vera_lex.specs.Forms.{sign_number}

pub sign_small : (w : List ℕ) (n : ℕ) → sign_number w ≡ Some n → n < 48
sign_small w n h = (position-Some (λ s. bytes_eq s w) signs n [] h).0
