-- What is said of the words among a text's tokens.
use Rattle.std.specs.Prelude.{◌≡◌, ℕ, true, List, slice_get, Some}
use Rattle.vera_ast.specs.Signals.{is_plain}
use Rattle.vera_ast.specs.declared.token.Token.{Token}
use Rattle.vera_ast.specs.declared.token.TokenKind.TheVariants.{Word}

-- each token that is a word has a text without a bracket
pub record HasPlainWords (tokens : List Token) : Type 0 where
  pub plain : (n line : ℕ) (text : List ℕ) → slice_get tokens n ≡ Some (record { kind = Word text; line = line }) → is_plain text ≡ true
