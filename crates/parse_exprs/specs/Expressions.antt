-- Expressions, as the published grammar has them: one definition for each production, open over the two that nest.
use Rattle.std.specs.Prelude.{ℕ, zero, suc, List, [], ◌∷◌, Option, Some, None}
use Rattle.vera_ast.specs.declared.codes.TheConstants as code
use Rattle.vera_ast.specs.declared.token.Token.{Token}
use Rattle.vera_ast.specs.declared.tree.expressions.Expr.{Expr}
use Rattle.vera_ast.specs.declared.tree.expressions.Expr.TheViews as node
use Rattle.vera_ast.specs.declared.tree.expressions.ChainOperator.{ChainOperator}
use Rattle.vera_ast.specs.declared.tree.expressions.Link.{Link}
use Rattle.vera_ast.specs.declared.tree.expressions.Postfix.{Postfix}
use Rattle.vera_ast.specs.declared.tree.expressions.Primary.{Primary}
use Rattle.vera_ast.specs.declared.tree.expressions.PrimaryForm.{PrimaryForm}
use Rattle.vera_ast.specs.declared.tree.expressions.PrimaryForm.TheVariants as form
use Rattle.vera_ast.specs.declared.tree.expressions.UnaryOperator.{UnaryOperator}
use Rattle.vera_ast.specs.declared.tree.expressions.Suffix.{Suffix}
use Rattle.vera_ast.specs.declared.tree.expressions.Suffix.TheVariants as suffix_form
use Rattle.grammar_laws.specs.Languages.{Lang, pure, ◌>>=◌, ◌>>◌, ◌<$>◌, ◌<|>◌, many, maybe}
use Rattle.parse_cursor.specs.Tokens.{word, name_of, sign, name, number, string}
use Rattle.parse_exprs.specs.Sets.{name_words}
use Rattle.parse_exprs.specs.Operators as signs
use Rattle.parse_exprs.specs.Operators.{chained}
use Rattle.vera_ast.specs.Lines.{line_of}

-- a level of operators between operands: operand { operator operand }
module _ (operators : List (ℕ × ChainOperator)) (operand : Lang Token Expr) where
  unfoldable pub link : Lang Token Link
  link = do s ← sign operators; x ← operand; pure (record { operator = s.1; operand = x })

  unfoldable pub level : Lang Token Expr
  level = do
    first ← operand
    links ← many link
    pure (chained first links)

abbrev pub primary_at : PrimaryForm → ℕ → Primary
primary_at f line = record { line = line; form = f }

-- what stands in brackets behind a value: an element's index, or the highest and the lowest bit
abbrev pub bracketed : Expr → Option Expr → Suffix
bracketed x None = node.Index x
bracketed x (Some low) = node.Bits x low

-- a condition's expression alone, or with its two branches
abbrev pub chosen : Expr → Option (Expr × Expr) → Expr
chosen c None = c
chosen c (Some branches) = node.Conditional (record { line = line_of c; condition = c; when_true = branches.0; when_false = branches.1 })

module _ (expr unary : Lang Token Expr) where
  unfoldable pub literal : Lang Token Primary
  literal = (λ n. record { line = n.line; form = form.Number n.number }) <$> number

  unfoldable pub text : Lang Token Primary
  text = (λ s. record { line = s.line; form = form.Str s.text }) <$> string

  -- a name, the name of a built-in call, or a mode word
  unfoldable pub named : Lang Token Primary
  named = (λ n. record { line = n.line; form = form.Name n.text }) <$> name_of name_words

  unfoldable pub null : Lang Token Primary
  null = primary_at form.Null <$> word code.NULL

  unfoldable pub this : Lang Token Primary
  this = primary_at form.This <$> word code.THIS

  unfoldable pub parent : Lang Token Primary
  parent = primary_at form.Super <$> word code.SUPER

  unfoldable pub fresh : Lang Token Primary
  fresh = primary_at form.New <$> word code.NEW

  -- "(" expr ")"
  unfoldable pub group : Lang Token Primary
  group = do line ← word code.LEFT_PARENTHESIS; x ← expr; word code.RIGHT_PARENTHESIS; pure (record { line = line; form = node.Parentheses x })

  -- number | string | name | "null" | "this" | "super" | "new" | "(" expr ")"
  unfoldable pub start : Lang Token Primary
  start = literal <|> text <|> named <|> null <|> this <|> parent <|> fresh <|> group

  -- "," expr
  unfoldable pub further : Lang Token Expr
  further = word code.COMMA >> expr

  -- expr { "," expr }
  unfoldable pub exprs : Lang Token (List Expr)
  exprs = do x ← expr; more ← many further; pure (x ∷ more)

  -- { "," expr } "}" after this
  unfoldable pub concatenated : ℕ → Expr → Lang Token Primary
  concatenated line x = do more ← many further; word code.RIGHT_BRACE; pure (record { line = line; form = node.Concatenation (x ∷ more) })

  -- "{" expr { "," expr } "}" "}" after this
  unfoldable pub replicated : ℕ → Expr → Lang Token Primary
  replicated line count = do
    word code.LEFT_BRACE
    parts ← exprs
    word code.RIGHT_BRACE
    word code.RIGHT_BRACE
    pure (record { line = line; form = node.Replication count parts })

  -- "{" expr { "," expr } "}"
  unfoldable pub concatenation : Lang Token Primary
  concatenation = do line ← word code.LEFT_BRACE; x ← expr; concatenated line x

  -- "{" expr "{" expr { "," expr } "}" "}"
  unfoldable pub replication : Lang Token Primary
  replication = do line ← word code.LEFT_BRACE; x ← expr; replicated line x

  unfoldable pub braces : Lang Token Primary
  braces = concatenation <|> replication

  -- prim
  unfoldable pub prim : Lang Token Primary
  prim = start <|> braces

  -- name after "."
  unfoldable pub member : Lang Token Suffix
  member = (λ n. suffix_form.Member n.text) <$> name

  -- "new" after "."
  unfoldable pub made : Lang Token Suffix
  made = (λ line. suffix_form.New) <$> word code.NEW

  -- "." name | "." "new"
  unfoldable pub dotted : Lang Token Suffix
  dotted = (word code.DOT >> member) <|> (word code.DOT >> made)

  unfoldable pub low_bit : Lang Token Expr
  low_bit = word code.COLON >> expr

  -- "[" expr [ ":" expr ] "]"
  unfoldable pub bits : Lang Token Suffix
  bits = do word code.LEFT_BRACKET; x ← expr; low ← maybe low_bit; word code.RIGHT_BRACKET; pure (bracketed x low)

  -- [ expr { "," expr } ]
  unfoldable pub arguments : Lang Token (List Expr)
  arguments = exprs <|> pure []

  -- "(" [ expr { "," expr } ] ")"
  unfoldable pub call : Lang Token Suffix
  call = do word code.LEFT_PARENTHESIS; all ← arguments; word code.RIGHT_PARENTHESIS; pure (node.Call all)

  -- "." name | "." "new" | "[" expr [ ":" expr ] "]" | "(" [ expr { "," expr } ] ")"
  unfoldable pub suffix : Lang Token Suffix
  suffix = dotted <|> bits <|> call

  -- { suffix } after this
  unfoldable pub suffixed : Primary → Lang Token Postfix
  suffixed p = do suffixes ← many suffix; pure (record { line = p.line; primary = p; suffixes = suffixes })

  -- post = prim { suffix }
  unfoldable pub free : Lang Token Postfix
  free = do
    p ← prim
    suffixed p

  -- post at the start of a statement, where a `{` begins a block
  unfoldable pub post : Lang Token Postfix
  post = do
    p ← start
    suffixed p

  -- "!" | "~" | "-" | "+" | "&" | "|" | "^" | "~&" | "~|" | "~^"
  unfoldable pub unary_sign : Lang Token (ℕ × UnaryOperator)
  unary_sign = sign signs.unary_signs

  -- unary_sign unary
  unfoldable pub prefixed : Lang Token Expr
  prefixed = do s ← unary_sign; x ← unary; pure (node.Unary (record { line = s.0; operator = s.1; operand = x }))

  -- unary = .. unary | post
  unfoldable pub operand : Lang Token Expr
  operand = prefixed <|> (node.Postfix <$> free)

  -- the levels, the tightest first

  unfoldable pub product : Lang Token Expr
  product = level signs.product_signs unary

  unfoldable pub sum : Lang Token Expr
  sum = level signs.sum_signs product

  unfoldable pub shift : Lang Token Expr
  shift = level signs.shift_signs sum

  unfoldable pub order : Lang Token Expr
  order = level signs.order_signs shift

  unfoldable pub equality : Lang Token Expr
  equality = level signs.equality_signs order

  unfoldable pub bit_and : Lang Token Expr
  bit_and = level signs.and_signs equality

  unfoldable pub bit_xor : Lang Token Expr
  bit_xor = level signs.xor_signs bit_and

  unfoldable pub bit_or : Lang Token Expr
  bit_or = level signs.or_signs bit_xor

  unfoldable pub logical_and : Lang Token Expr
  logical_and = level signs.logical_and_signs bit_or

  unfoldable pub logical_or : Lang Token Expr
  logical_or = level signs.logical_or_signs logical_and

  -- "?" expr ":" expr
  unfoldable pub branches : Lang Token (Expr × Expr)
  branches = do word code.QUESTION; x ← expr; word code.COLON; y ← expr; pure (x, y)

  -- expr = lor [ "?" expr ":" expr ]
  unfoldable pub whole : Lang Token Expr
  whole = do
    c ← logical_or
    two ← maybe branches
    pure (chosen c two)

-- by the height of the derivation; each of the two is one level of depth
unfoldable mutual
  pub expr : ℕ → Lang Token Expr
  expr zero = λ d w rest x. ⊥
  expr (suc h) = λ d. whole (expr h) (unary h) (suc d)

  pub unary : ℕ → Lang Token Expr
  unary zero = λ d w rest x. ⊥
  unary (suc h) = λ d. operand (expr h) (unary h) (suc d)
