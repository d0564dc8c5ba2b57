-- A small grammar of the kind for which the theory is made: blocks of declarations and statements which may both begin with a name,
-- an `else` that belongs to the nearest `if`, chains of two levels, a prefix operator, postfix forms and parentheses.
use Rattle.std.specs.Prelude.{ℕ, zero, suc, List, [], ◌∷◌, Option, Some, None}
use Rattle.grammar_laws.specs.Languages.{Lang, pure, ◌>>=◌, ◌>>◌, ◌<$>◌, ◌<|>◌, sequence, choice, many, maybe, many_then}
use Rattle.grammar_laws.specs.Languages as languages

-- kinds: 0 a name, 1 a number, 2 `integer`, 3 `if`, 4 `else`, 5 `{`, 6 `}`, 7 `(`, 8 `)`, 9 `[`, 10 `]`, 11 `;`, 12 `,`, 13 `=`, 14 `<`, 15 `+`, 16 `-`
pub record Token : Type 0 where
  pub kind : ℕ
  pub value : ℕ

abbrev pub code : Token → ℕ
code t = t.kind

pub data Tree : Type 0 where
  Leaf : ℕ → Tree
  Fork : ℕ → Tree → Tree → Tree

abbrev pub nil : Tree
nil = Leaf 0

abbrev pub listed : List Tree → Tree
listed [] = nil
listed (t ∷ ts) = Fork 0 t (listed ts)

abbrev pub option : Option Tree → Tree
option None = nil
option (Some t) = t

-- operators of one level group from the left
abbrev pub chained : Tree → List Tree → Tree
chained t [] = t
chained t (u ∷ us) = chained (Fork 1 t u) us

abbrev pub word : ℕ → Lang Token Token
word c = languages.word code c

abbrev pub nearest : List ℕ → Lang Token Tree → Lang Token (Option Tree)
nearest codes l = languages.nearest code codes l

module _ (expr unary : Lang Token Tree) where
  unfoldable pub named : Lang Token Tree
  named = (λ t. Leaf t.value) <$> word 0

  unfoldable pub number : Lang Token Tree
  number = (λ t. Leaf t.value) <$> word 1

  unfoldable pub group : Lang Token Tree
  group = do word 7; x ← expr; word 8; pure x

  -- prim = name | number | "(" expr ")"
  unfoldable pub prim : Lang Token Tree
  prim = named <|> number <|> group

  -- suffix = "[" expr "]" | "(" [ expr { "," expr } ] ")"
  unfoldable pub suffix : Lang Token Tree
  suffix = (do word 9; x ← expr; word 10; pure x)
      <|> (do word 7; all ← ((do x ← expr; more ← many (word 12 >> expr); pure (x ∷ more)) <|> pure []); word 8; pure (listed all))

  -- { suffix } after this
  unfoldable pub suffixed : Tree → Lang Token Tree
  suffixed x = do more ← many suffix; pure (chained x more)

  -- post = prim { suffix }
  unfoldable pub post : Lang Token Tree
  post = do
    x ← prim
    suffixed x

  -- unary = "-" unary | post
  unfoldable pub operand : Lang Token Tree
  operand = (do word 16; x ← unary; pure (Fork 2 x nil)) <|> post

  -- sum = unary { "+" unary }
  unfoldable pub sum : Lang Token Tree
  sum = do
    x ← unary
    more ← many (word 15 >> unary)
    pure (chained x more)

  -- expr = sum { "<" sum }
  unfoldable pub compare : Lang Token Tree
  compare = do
    x ← sum
    more ← many (word 14 >> sum)
    pure (chained x more)

unfoldable mutual
  pub expr : ℕ → Lang Token Tree
  expr zero = λ d w rest x. ⊥
  expr (suc h) = λ d. compare (expr h) (unary h) (suc d)

  pub unary : ℕ → Lang Token Tree
  unary zero = λ d w rest x. ⊥
  unary (suc h) = λ d. operand (expr h) (unary h) (suc d)

module _ (expr post stmt : Lang Token Tree) where
  -- name [ "=" expr ] ";" after this type
  unfoldable pub declared : Token → Lang Token Tree
  declared t = do
    name ← word 0
    value ← maybe (word 13 >> expr)
    word 11
    pure (Fork t.value (Leaf name.value) (option value))

  -- decl = ( "integer" | name ) name [ "=" expr ] ";"
  unfoldable pub decl : Lang Token Tree
  decl = do
    t ← (word 2 <|> word 0)
    declared t

  -- block = "{" { decl } { stmt } "}"
  unfoldable pub block : Lang Token Tree
  block = do
    word 5
    both ← many_then decl stmt
    word 6
    pure (Fork 3 (listed both.0) (listed both.1))

  -- stmt = block | ";" | "if" "(" expr ")" stmt [ "else" stmt ] | post "=" expr ";" | post ";"
  unfoldable pub if_stmt : Lang Token Tree
  if_stmt = do
    word 3
    word 7
    x ← expr
    word 8
    then_part ← stmt
    else_part ← nearest (4 ∷ []) (word 4 >> stmt)
    pure (Fork 4 x (Fork 0 then_part (option else_part)))

  unfoldable pub empty : Lang Token Tree
  empty = (λ t. nil) <$> word 11

  unfoldable pub assigned : Tree → Lang Token Tree
  assigned x = do word 13; y ← expr; word 11; pure (Fork 5 x y)

  unfoldable pub assign : Lang Token Tree
  assign = do
    x ← post
    assigned x

  unfoldable pub called : Tree → Lang Token Tree
  called x = do word 11; pure (Fork 6 x nil)

  unfoldable pub call : Lang Token Tree
  call = do
    x ← post
    called x

  unfoldable pub body : Lang Token Tree
  body = block <|> empty <|> if_stmt <|> assign <|> call

unfoldable pub stmt : ℕ → Lang Token Tree
stmt zero = λ d w rest x. ⊥
stmt (suc h) = λ d. body (expr h) (post (expr h) (unary h)) (stmt h) (suc d)

-- file = { block }
unfoldable pub file : ℕ → Lang Token (List Tree)
file h = many (block (expr h) (post (expr h) (unary h)) (stmt h))
