-- The readers of Lists, with the codes that decide.
use Rattle.std.specs.Prelude.{ℕ, Bool, true, false, List, [], ◌∷◌}
use Rattle.grammar_laws.specs.Readers.{Parser, pure, ◌>>=◌, ◌>>◌, ◌<$>◌}
use Rattle.vera_ast.specs.declared.token.Token.{Token}
use Rattle.parse_cursor.specs.TokenReading.{word, name, either, many}

unfoldable pub title : Parser Token (List ℕ)
title = (λ n. n.text) <$> name

-- [ word ], and whether it is there
unfoldable pub flag : ℕ → Parser Token Bool
flag c = either (c ∷ []) ((λ t. true) <$> word c) (pure false)

-- l { l }
unfoldable pub some : {A : Type 0} → List ℕ → Parser Token A → Parser Token (List A)
some codes p = do
  first ← p
  more ← many codes p
  pure (first ∷ more)

-- sign l
unfoldable pub after : {A : Type 0} → ℕ → Parser Token A → Parser Token A
after c p = word c >> p

-- l { sign l }
unfoldable pub listed : {A : Type 0} → ℕ → Parser Token A → Parser Token (List A)
listed c p = do
  first ← p
  more ← many (c ∷ []) (after c p)
  pure (first ∷ more)
