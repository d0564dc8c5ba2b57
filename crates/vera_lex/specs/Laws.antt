-- The laws of the definition.
use Rattle.std.specs.Prelude.{◌≡◌, ℕ, List, Result}
use Rattle.vera_ast.specs.declared.token.Token.{Token}
use Rattle.vera_ast.specs.declared.refusal.Refusal.{Refusal}
use Rattle.vera_lex.specs.Tokens.{IsLexed}

-- a text has at most one result
abbrev pub HasOneResult : List ℕ → Type 0
HasOneResult bytes = (r s : Result (List Token) Refusal) → IsLexed bytes r → IsLexed bytes s → r ≡ s
