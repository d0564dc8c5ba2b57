-- What the productions of items share: names, words that may stand or not, and lists of one or more.
use Rattle.std.specs.Prelude.{ℕ, Bool, true, false, List, [], ◌∷◌}
use Rattle.grammar_laws.specs.Languages.{Lang, pure, ◌>>=◌, ◌>>◌, ◌<$>◌, ◌<|>◌, many}
use Rattle.vera_ast.specs.declared.token.Token.{Token}
use Rattle.parse_cursor.specs.Tokens.{word, name}

-- the text of a name
unfoldable pub title : Lang Token (List ℕ)
title = (λ n. n.text) <$> name

-- [ word ], and whether it is there
unfoldable pub flag : ℕ → Lang Token Bool
flag c = ((λ t. true) <$> word c) <|> pure false

-- l { l }
unfoldable pub some : {A : Type 0} → Lang Token A → Lang Token (List A)
some l = do
  first ← l
  more ← many l
  pure (first ∷ more)

-- sign l
unfoldable pub after : {A : Type 0} → ℕ → Lang Token A → Lang Token A
after c l = word c >> l

-- l { sign l }
unfoldable pub listed : {A : Type 0} → ℕ → Lang Token A → Lang Token (List A)
listed c l = do
  first ← l
  more ← many (after c l)
  pure (first ∷ more)
