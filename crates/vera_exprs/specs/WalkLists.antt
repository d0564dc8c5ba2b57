-- The walk over expressions, over lists of parts.
use Rattle.std.specs.Prelude.{ℕ, Bool, false, List, [], ◌∷◌, ◌++◌, Ok, Err}
use Rattle.vera_ast.specs.Lines.{line_of}
use Rattle.vera_ast.specs.declared.tree.expressions.Conditional.{Conditional}
use Rattle.vera_ast.specs.declared.tree.expressions.Expr.{Expr}
use Rattle.vera_ast.specs.declared.tree.expressions.Link.{Link as TreeLink}
use Rattle.vera_ast.specs.declared.tree.expressions.Postfix.{Postfix}
use Rattle.vera_ast.specs.declared.tree.expressions.Suffix.{Suffix}
use Rattle.vera_ast.specs.declared.tree.expressions.Unary.{Unary}
use Rattle.typing_rules.specs.Calls.{call, wanted, modes_taken}
use Rattle.typing_rules.specs.Checked.{Checked, ◌>>=◌}
use Rattle.typing_rules.specs.Constants.{constant}
use Rattle.typing_rules.specs.Expressions.{walk, walk_form, walk_suffix, expr, part_stand, argument_stand, is_call}
use Rattle.typing_rules.specs.Heads.{argument}
use Rattle.typing_rules.specs.Posts.{index, bits}
use Rattle.typing_rules.specs.Productions.{conditional, Link, chain, unary, concatenation, replication}
use Rattle.typing_rules.specs.Signatures.{Wants, next_want, after_next}
use Rattle.typing_rules.specs.declared.context.Context.{Context}
use Rattle.typing_rules.specs.declared.head.Argument.{Argument}
use Rattle.typing_rules.specs.declared.head.Head.{Head}
use Rattle.typing_rules.specs.declared.head.Stand.{Stand}
use Rattle.typing_rules.specs.declared.head.Typed.{Typed}
use Rattle.typing_rules.specs.declared.words.Mode.{Mode}
use Rattle.typing_rules.specs.declared.words.Want.{Want}

-- a result in front of those behind it
abbrev pub before : {A : Type 0} → A → Checked (List A) → Checked (List A)
before a (Ok all) = Ok (a ∷ all)
before a (Err r) = Err r

-- results in front of those behind them
abbrev pub all_before : {A : Type 0} → List A → Checked (List A) → Checked (List A)
all_before done (Ok all) = Ok (done ++ all)
all_before done (Err r) = Err r

unfoldable pub links_walked : Context → List TreeLink → Checked (List Link)
links_walked c [] = Ok []
links_walked c (l ∷ ls) = expr c l.operand >>= (λ operand. before (l.operator, operand) (links_walked c ls))

unfoldable pub exprs_walked : Context → List Expr → Checked (List Typed)
exprs_walked c [] = Ok []
exprs_walked c (x ∷ xs) = expr c x >>= (λ first. before first (exprs_walked c xs))

-- where the part before some suffixes stands
abbrev pub stand_of : Stand → List Suffix → Stand
stand_of s [] = s
stand_of s (x ∷ xs) = part_stand s

unfoldable pub suffixes_walked : Context → Stand → ℕ → Head → List Suffix → Checked Head
suffixes_walked c s line head [] = Ok head
suffixes_walked c s line head (x ∷ xs) = walk_suffix c (stand_of s xs) line head x >>= (λ next. suffixes_walked c s line next xs)

-- an argument where this is wanted
abbrev pub argument_at : Context → (Mode → Bool) → Want → Expr → Checked Argument
argument_at c takes want x = walk c (argument_stand want) x >>= argument takes want (line_of x)

-- an argument where the first of these is wanted
abbrev pub argument_walked : Context → (Mode → Bool) → Wants → Expr → Checked Argument
argument_walked c takes wants x = argument_at c takes (next_want wants) x

unfoldable pub arguments_walked : Context → (Mode → Bool) → Wants → List Expr → Checked (List Argument)
arguments_walked c takes wants [] = Ok []
arguments_walked c takes wants (x ∷ xs) = argument_walked c takes wants x >>= (λ first. before first (arguments_walked c takes (after_next wants) xs))

-- whether arguments follow
abbrev pub calls_first : List Suffix → Bool
calls_first [] = false
calls_first (x ∷ xs) = is_call x

-- ---- each production, over its parts

-- both sides of a condition
unfoldable pub choices_form : Context → Conditional → Checked (Typed × Typed)
choices_form c n = do
  when_true ← expr c n.when_true
  when_false ← expr c n.when_false
  Ok (when_true, when_false)

unfoldable pub conditional_form : Context → Conditional → Checked Head
conditional_form c n = do
  condition ← expr c n.condition
  sides ← choices_form c n
  conditional n.line condition sides.0 sides.1

-- the links of a chain, behind its first operand
unfoldable pub chain_form : Context → ℕ → Typed → List TreeLink → Checked Head
chain_form c line first links = do
  rest ← links_walked c links
  chain c.outline.classes line first rest

unfoldable pub unary_form : Context → Unary → Checked Head
unary_form c u = do
  operand ← expr c u.operand
  unary u.line u.operator operand

unfoldable pub post_form : Context → Stand → Postfix → Checked Head
post_form c s x = do
  first ← walk_form c (calls_first x.suffixes) x.line x.primary.form
  suffixes_walked c s x.line first x.suffixes

unfoldable pub concatenation_form : Context → ℕ → List Expr → Checked Head
concatenation_form c line parts = do
  all ← exprs_walked c parts
  concatenation line all

unfoldable pub replication_form : Context → ℕ → ℕ → List Expr → Checked Head
replication_form c line count parts = do
  all ← exprs_walked c parts
  replication line count all

unfoldable pub index_form : Context → Stand → ℕ → Head → Expr → Checked Head
index_form c s line head x = do
  i ← expr c x
  index s line head i

unfoldable pub range_form : Context → Expr → Expr → Checked (ℕ × ℕ)
range_form c x y = do
  high ← constant c.scopes x
  low ← constant c.scopes y
  Ok (high, low)

unfoldable pub bits_form : Context → Stand → ℕ → Head → Expr → Expr → Checked Head
bits_form c s line head x y = do
  ends ← range_form c x y
  bits s line head ends.0 ends.1

unfoldable pub call_form : Context → Stand → ℕ → Head → List Expr → Checked Head
call_form c s line head xs = do
  arguments ← arguments_walked c (modes_taken head) (wanted c.outline head) xs
  call c.outline c.body s line head arguments
