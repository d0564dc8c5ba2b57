-- Languages, put together as in a published grammar. `do` is one part after the other, `<|>` is `|`, `many` is `{ }`, `maybe` is `[ ]`,
-- `word code c` is a quoted token. A word of a language is a list of tokens with their depths; the tokens that follow it are an argument
-- too, and only `nearest` looks at them.
--
-- A grammar writes one such definition for each production, `unfoldable`, open over the languages of the productions that may nest and count:
--     module _ (expr : Lang Token Expr) where
--       unfoldable pub group : Lang Token Expr
--       group = do word 7; x ← expr; word 8; pure x
-- and ties these few by recursion on the height of the derivation, each one depth down:
--     unfoldable mutual
--       pub expr : ℕ → Lang Token Expr
--       expr zero = λ d w rest x. ⊥
--       expr (suc h) = λ d. compare (expr h) (unary h) (suc d)
-- A part that another production continues (`{ suffix }` after this, `= expr ;` after this) is a production of its own, so that it can be cited.
use Rattle.std.specs.Prelude.{◌≡◌, ℕ, false, List, [], ◌∷◌, ◌++◌, Option, Some, None, ◌⊎◌}
use Rattle.grammar_laws.specs.Words.{Cell, bare, begins}

-- Which words, at a depth and before these other tokens, derive a value.
abbrev pub Lang : Type 0 → Type 0 → Type 1
Lang T A = ℕ → List (Cell T) → List T → A → Type 0

-- nothing
unfoldable pub pure : {T A : Type 0} → A → Lang T A
pure a = λ d w rest b. (w ≡ []) × (a ≡ b)

-- one after the other
unfoldable pub sequence : {T A B : Type 0} → Lang T A → (A → Lang T B) → Lang T B
sequence l f = λ d w rest b. (a : _) × (u : List (Cell _)) × (v : List (Cell _)) × (w ≡ u ++ v) × l d u (bare v ++ rest) a × f a d v rest b

infixl 10 ◌>>=◌
abbrev pub ◌>>=◌ : {T A B : Type 0} → Lang T A → (A → Lang T B) → Lang T B
l >>= f = sequence l f

infixl 10 ◌>>◌
abbrev pub ◌>>◌ : {T A B : Type 0} → Lang T A → Lang T B → Lang T B
l >> m = l >>= (λ _. m)

infixr 11 ◌<$>◌
abbrev pub ◌<$>◌ : {T A B : Type 0} → (A → B) → Lang T A → Lang T B
f <$> l = l >>= (λ x. pure (f x))

-- one or the other
unfoldable pub choice : {T A : Type 0} → Lang T A → Lang T A → Lang T A
choice l m = λ d w rest a. l d w rest a ⊎ m d w rest a

infixr 8 ◌<|>◌
abbrev pub ◌<|>◌ : {T A : Type 0} → Lang T A → Lang T A → Lang T A
l <|> m = choice l m

-- a token with this code
unfoldable pub word : {T : Type 0} → (T → ℕ) → ℕ → Lang T T
word code c = λ d w rest t. (w ≡ (t, d) ∷ []) × (code t ≡ c)

-- { l }
unfoldable pub many : {T A : Type 0} → Lang T A → Lang T (List A)
many l d w rest [] = w ≡ []
many l d w rest (a ∷ more) = (u : List (Cell _)) × (v : List (Cell _)) × (w ≡ u ++ v) × l d u (bare v ++ rest) a × many l d v rest more

-- [ l ]
abbrev pub maybe : {T A : Type 0} → Lang T A → Lang T (Option A)
maybe l = (Some <$> l) <|> pure None

-- [ l ], which is there where a token follows with which it could begin: as an `else` belongs to the nearest `if`
unfoldable pub nearest : {T A : Type 0} → (T → ℕ) → List ℕ → Lang T A → Lang T (Option A)
nearest code codes l d w rest (Some a) = l d w rest a
nearest code codes l d w rest None = (w ≡ []) × (begins code codes rest ≡ false)

-- { l } { m }, with what each of both gives: as declarations and then statements
unfoldable pub many_then : {T A B : Type 0} → Lang T A → Lang T B → Lang T (List A × List B)
many_then l m = do
  as1 ← many l
  bs ← many m
  pure (as1, bs)
