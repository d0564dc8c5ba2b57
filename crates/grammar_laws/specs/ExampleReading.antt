-- The small grammar as a function on lists of tokens, by descent: each production again, with the codes that decide.
use Rattle.std.specs.Prelude.{ℕ, zero, suc, List, [], ◌∷◌, Option}
use Rattle.grammar_laws.specs.Readers.{Parser, pure, ◌>>=◌, ◌>>◌, ◌<$>◌, and_then}
use Rattle.grammar_laws.specs.Readers as readers
use Rattle.grammar_laws.specs.ExampleGrammar.{Token, code, Tree, Leaf, Fork, nil, listed, option, chained}

abbrev pub word : ℕ → Parser Token Token
word c = readers.word code c

abbrev pub either : {A : Type 0} → List ℕ → Parser Token A → Parser Token A → Parser Token A
either codes p q = readers.either code codes p q

abbrev pub many : {A : Type 0} → List ℕ → Parser Token A → Parser Token (List A)
many codes p = readers.many code codes p

abbrev pub maybe : {A : Type 0} → List ℕ → Parser Token A → Parser Token (Option A)
maybe codes p = readers.maybe code codes p

abbrev pub first_post : List ℕ
first_post = 0 ∷ 1 ∷ 7 ∷ []

abbrev pub first_expr : List ℕ
first_expr = 16 ∷ first_post

abbrev pub first_stmt : List ℕ
first_stmt = 5 ∷ 11 ∷ 3 ∷ first_post

-- what may follow a name with which a statement begins
abbrev pub after_name : List ℕ
after_name = 9 ∷ 7 ∷ 13 ∷ 11 ∷ []

module _ (expr unary : Parser Token Tree) where
  unfoldable pub named : Parser Token Tree
  named = (λ t. Leaf t.value) <$> word 0

  unfoldable pub number : Parser Token Tree
  number = (λ t. Leaf t.value) <$> word 1

  unfoldable pub group : Parser Token Tree
  group = do word 7; x ← expr; word 8; pure x

  unfoldable pub prim : Parser Token Tree
  prim = either (0 ∷ []) named (either (1 ∷ []) number group)

  unfoldable pub suffix : Parser Token Tree
  suffix = either (9 ∷ []) (do word 9; x ← expr; word 10; pure x)
      (do word 7; all ← (either first_expr (do x ← expr; more ← many (12 ∷ []) (word 12 >> expr); pure (x ∷ more)) (pure [])); word 8; pure (listed all))

  unfoldable pub suffixed : Tree → Parser Token Tree
  suffixed x = do more ← many (9 ∷ 7 ∷ []) suffix; pure (chained x more)

  unfoldable pub post : Parser Token Tree
  post = do
    x ← prim
    suffixed x

  unfoldable pub operand : Parser Token Tree
  operand = either (16 ∷ []) (do word 16; x ← unary; pure (Fork 2 x nil)) post

  unfoldable pub sum : Parser Token Tree
  sum = do
    x ← unary
    more ← many (15 ∷ []) (word 15 >> unary)
    pure (chained x more)

  unfoldable pub compare : Parser Token Tree
  compare = do
    x ← sum
    more ← many (14 ∷ []) (word 14 >> sum)
    pure (chained x more)

unfoldable mutual
  pub expr : ℕ → Parser Token Tree
  expr zero = readers.too_deep code first_expr
  expr (suc n) = compare (expr n) (unary n)

  pub unary : ℕ → Parser Token Tree
  unary zero = readers.too_deep code first_expr
  unary (suc n) = operand (expr n) (unary n)

module _ (expr post stmt : Parser Token Tree) where
  unfoldable pub declared : Token → Parser Token Tree
  declared t = do
    name ← word 0
    value ← maybe (13 ∷ []) (word 13 >> expr)
    word 11
    pure (Fork t.value (Leaf name.value) (option value))

  unfoldable pub decl : Parser Token Tree
  decl = do
    t ← either (2 ∷ []) (word 2) (word 0)
    declared t

  unfoldable pub block : Parser Token Tree
  block = do
    word 5
    both ← readers.many_then code (2 ∷ []) 0 after_name first_stmt decl stmt
    word 6
    pure (Fork 3 (listed both.0) (listed both.1))

  unfoldable pub if_stmt : Parser Token Tree
  if_stmt = do
    word 3
    word 7
    x ← expr
    word 8
    then_part ← stmt
    else_part ← maybe (4 ∷ []) (word 4 >> stmt)
    pure (Fork 4 x (Fork 0 then_part (option else_part)))

  unfoldable pub empty : Parser Token Tree
  empty = (λ t. nil) <$> word 11

  unfoldable pub assigned : Tree → Parser Token Tree
  assigned x = do word 13; y ← expr; word 11; pure (Fork 5 x y)

  unfoldable pub called : Tree → Parser Token Tree
  called x = do word 11; pure (Fork 6 x nil)

  -- `post` is read once for both
  unfoldable pub post_stmt : Parser Token Tree
  post_stmt = do
    x ← post
    either (13 ∷ []) (assigned x) (called x)

  unfoldable pub body : Parser Token Tree
  body = either (5 ∷ []) block (either (11 ∷ []) empty (either (3 ∷ []) if_stmt post_stmt))

unfoldable pub stmt : ℕ → Parser Token Tree
stmt zero = readers.too_deep code first_stmt
stmt (suc n) = body (expr n) (post (expr n) (unary n)) (stmt n)

-- so many levels are left
unfoldable pub blocks : ℕ → Parser Token (List Tree)
blocks n = many (5 ∷ []) (block (expr n) (post (expr n) (unary n)) (stmt n))

unfoldable pub file : ℕ → Parser Token (List Tree)
file n = readers.whole (blocks n)
