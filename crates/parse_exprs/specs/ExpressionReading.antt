-- Expressions as a function on lists of tokens, by descent: each production of Expressions again, with the codes that decide.
use Rattle.std.specs.Prelude.{ℕ, zero, suc, List, [], ◌∷◌}
use Rattle.vera_ast.specs.declared.codes.TheConstants as code
use Rattle.vera_ast.specs.declared.token.Token.{Token}
use Rattle.vera_ast.specs.declared.tree.expressions.Expr.{Expr}
use Rattle.vera_ast.specs.declared.tree.expressions.Expr.TheViews as node
use Rattle.vera_ast.specs.declared.tree.expressions.ChainOperator.{ChainOperator}
use Rattle.vera_ast.specs.declared.tree.expressions.Link.{Link}
use Rattle.vera_ast.specs.declared.tree.expressions.Postfix.{Postfix}
use Rattle.vera_ast.specs.declared.tree.expressions.Primary.{Primary}
use Rattle.vera_ast.specs.declared.tree.expressions.PrimaryForm.TheVariants as form
use Rattle.vera_ast.specs.declared.tree.expressions.UnaryOperator.{UnaryOperator}
use Rattle.vera_ast.specs.declared.tree.expressions.Suffix.{Suffix}
use Rattle.vera_ast.specs.declared.tree.expressions.Suffix.TheVariants as suffix_form
use Rattle.grammar_laws.specs.Readers.{Parser, pure, ◌>>=◌, ◌>>◌, ◌<$>◌}
use Rattle.parse_cursor.specs.TokenReading.{either, many, maybe, too_deep, codes_of, word, name_of, sign, name, number, string}
use Rattle.parse_exprs.specs.Sets.{name_words, first_post, first_suffix, first_unary, first_expr}
use Rattle.parse_exprs.specs.Operators as signs
use Rattle.parse_exprs.specs.Operators.{chained}
use Rattle.parse_exprs.specs.Expressions.{primary_at, bracketed, chosen}

module _ (operators : List (ℕ × ChainOperator)) (operand : Parser Token Expr) where
  unfoldable pub link : Parser Token Link
  link = do s ← sign operators; x ← operand; pure (record { operator = s.1; operand = x })

  unfoldable pub level : Parser Token Expr
  level = do
    first ← operand
    links ← many (codes_of operators) link
    pure (chained first links)

module _ (expr unary : Parser Token Expr) where
  unfoldable pub literal : Parser Token Primary
  literal = (λ n. record { line = n.line; form = form.Number n.number }) <$> number

  unfoldable pub text : Parser Token Primary
  text = (λ s. record { line = s.line; form = form.Str s.text }) <$> string

  unfoldable pub named : Parser Token Primary
  named = (λ n. record { line = n.line; form = form.Name n.text }) <$> name_of name_words

  unfoldable pub null : Parser Token Primary
  null = primary_at form.Null <$> word code.NULL

  unfoldable pub this : Parser Token Primary
  this = primary_at form.This <$> word code.THIS

  unfoldable pub parent : Parser Token Primary
  parent = primary_at form.Super <$> word code.SUPER

  unfoldable pub fresh : Parser Token Primary
  fresh = primary_at form.New <$> word code.NEW

  unfoldable pub group : Parser Token Primary
  group = do line ← word code.LEFT_PARENTHESIS; x ← expr; word code.RIGHT_PARENTHESIS; pure (record { line = line; form = node.Parentheses x })

  unfoldable pub start : Parser Token Primary
  start =
      either (code.NUMBER ∷ []) literal (either (code.STRING_LITERAL ∷ []) text (either name_words named
      (either (code.NULL ∷ []) null (either (code.THIS ∷ []) this (either (code.SUPER ∷ []) parent (either (code.NEW ∷ []) fresh group))))))

  unfoldable pub further : Parser Token Expr
  further = word code.COMMA >> expr

  unfoldable pub exprs : Parser Token (List Expr)
  exprs = do x ← expr; more ← many (code.COMMA ∷ []) further; pure (x ∷ more)

  unfoldable pub concatenated : ℕ → Expr → Parser Token Primary
  concatenated line x = do more ← many (code.COMMA ∷ []) further; word code.RIGHT_BRACE; pure (record { line = line; form = node.Concatenation (x ∷ more) })

  unfoldable pub replicated : ℕ → Expr → Parser Token Primary
  replicated line count = do
    word code.LEFT_BRACE
    parts ← exprs
    word code.RIGHT_BRACE
    word code.RIGHT_BRACE
    pure (record { line = line; form = node.Replication count parts })

  -- `{ expr` is read once for both
  unfoldable pub braces : Parser Token Primary
  braces = do line ← word code.LEFT_BRACE; x ← expr; either (code.LEFT_BRACE ∷ []) (replicated line x) (concatenated line x)

  unfoldable pub prim : Parser Token Primary
  prim = either first_post start braces

  unfoldable pub member : Parser Token Suffix
  member = (λ n. suffix_form.Member n.text) <$> name

  unfoldable pub made : Parser Token Suffix
  made = (λ line. suffix_form.New) <$> word code.NEW

  -- the `.` is read once for both
  unfoldable pub dotted : Parser Token Suffix
  dotted = do word code.DOT; either (code.NAME ∷ []) member made

  unfoldable pub low_bit : Parser Token Expr
  low_bit = word code.COLON >> expr

  unfoldable pub bits : Parser Token Suffix
  bits = do word code.LEFT_BRACKET; x ← expr; low ← maybe (code.COLON ∷ []) low_bit; word code.RIGHT_BRACKET; pure (bracketed x low)

  unfoldable pub arguments : Parser Token (List Expr)
  arguments = either first_expr exprs (pure [])

  unfoldable pub call : Parser Token Suffix
  call = do word code.LEFT_PARENTHESIS; all ← arguments; word code.RIGHT_PARENTHESIS; pure (node.Call all)

  unfoldable pub suffix : Parser Token Suffix
  suffix = either (code.DOT ∷ []) dotted (either (code.LEFT_BRACKET ∷ []) bits call)

  unfoldable pub suffixed : Primary → Parser Token Postfix
  suffixed p = do suffixes ← many first_suffix suffix; pure (record { line = p.line; primary = p; suffixes = suffixes })

  unfoldable pub free : Parser Token Postfix
  free = do
    p ← prim
    suffixed p

  unfoldable pub post : Parser Token Postfix
  post = do
    p ← start
    suffixed p

  unfoldable pub unary_sign : Parser Token (ℕ × UnaryOperator)
  unary_sign = sign signs.unary_signs

  unfoldable pub prefixed : Parser Token Expr
  prefixed = do s ← unary_sign; x ← unary; pure (node.Unary (record { line = s.0; operator = s.1; operand = x }))

  unfoldable pub operand : Parser Token Expr
  operand = either first_unary prefixed (node.Postfix <$> free)

  unfoldable pub product : Parser Token Expr
  product = level signs.product_signs unary

  unfoldable pub sum : Parser Token Expr
  sum = level signs.sum_signs product

  unfoldable pub shift : Parser Token Expr
  shift = level signs.shift_signs sum

  unfoldable pub order : Parser Token Expr
  order = level signs.order_signs shift

  unfoldable pub equality : Parser Token Expr
  equality = level signs.equality_signs order

  unfoldable pub bit_and : Parser Token Expr
  bit_and = level signs.and_signs equality

  unfoldable pub bit_xor : Parser Token Expr
  bit_xor = level signs.xor_signs bit_and

  unfoldable pub bit_or : Parser Token Expr
  bit_or = level signs.or_signs bit_xor

  unfoldable pub logical_and : Parser Token Expr
  logical_and = level signs.logical_and_signs bit_or

  unfoldable pub logical_or : Parser Token Expr
  logical_or = level signs.logical_or_signs logical_and

  unfoldable pub branches : Parser Token (Expr × Expr)
  branches = do word code.QUESTION; x ← expr; word code.COLON; y ← expr; pure (x, y)

  unfoldable pub whole : Parser Token Expr
  whole = do
    c ← logical_or
    two ← maybe (code.QUESTION ∷ []) branches
    pure (chosen c two)

-- by the levels of depth that are left
unfoldable mutual
  pub expr : ℕ → Parser Token Expr
  expr zero = too_deep first_expr
  expr (suc n) = whole (expr n) (unary n)

  pub unary : ℕ → Parser Token Expr
  unary zero = too_deep first_expr
  unary (suc n) = operand (expr n) (unary n)
