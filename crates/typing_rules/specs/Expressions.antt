-- The walk over expressions, from left to right and inner parts first.
use Rattle.std.specs.Prelude.{ℕ, Bool, true, false, if◌then◌else◌, List, [], ◌∷◌, Ok}
use Rattle.vera_ast.specs.Lines.{line_of}
use Rattle.vera_ast.specs.declared.tree.expressions.Expr.{Expr, Row_of-Expr, end_of-Expr, more_of-Expr}
use Rattle.vera_ast.specs.declared.tree.expressions.Expr.TheVariants.{Chain', Conditional', Unary', Postfix'}
use Rattle.vera_ast.specs.declared.tree.expressions.Expr.TheBlock.{Parentheses', Concatenation', Replication', Index', Bits', Call', Row_of-Link, end_of-Link, more_of-Link, Row_of-Suffix, end_of-Suffix, more_of-Suffix}
use Rattle.vera_ast.specs.declared.tree.expressions.PrimaryForm.{PrimaryForm}
use Rattle.vera_ast.specs.declared.tree.expressions.PrimaryForm.TheVariants as form
use Rattle.vera_ast.specs.declared.tree.expressions.Suffix.{Suffix}
use Rattle.vera_ast.specs.declared.tree.expressions.Suffix.TheVariants as suffix
use Rattle.vera_ast.specs.declared.typed.expr.TypedExpr.TheVariants as e
use Rattle.vera_ast.specs.declared.typed.types.ValueType.TheVariants as t
use Rattle.typing_rules.specs.Calls.{call, wanted, modes_taken}
use Rattle.typing_rules.specs.Checked.{Checked, ◌>>=◌, refuse, wrong_type}
use Rattle.typing_rules.specs.Constants.{constant}
use Rattle.typing_rules.specs.Heads.{typed, value_of, wants_variable, argument}
use Rattle.typing_rules.specs.Signatures.{Wants, next_want, after_next}
use Rattle.typing_rules.specs.declared.context.Context.{Context}
use Rattle.typing_rules.specs.declared.head.Argument.{Argument}
use Rattle.typing_rules.specs.declared.head.Head.{Head}
use Rattle.typing_rules.specs.declared.head.Head.TheVariants as h
use Rattle.typing_rules.specs.declared.head.Stand.{Stand}
use Rattle.typing_rules.specs.declared.head.Stand.TheVariants as stand
use Rattle.typing_rules.specs.declared.head.Typed.{Typed}
use Rattle.typing_rules.specs.declared.words.Mode.{Mode}
use Rattle.typing_rules.specs.declared.words.Want.{Want}
use Rattle.typing_rules.specs.Productions.{conditional, Link, chain, unary, concatenation, replication}
use Rattle.typing_rules.specs.Posts.{name, member, index, bits}

-- ---- the walk

-- where what a suffix follows stands: inside, but for a place
abbrev pub part_stand : Stand → Stand
part_stand stand.Place = stand.Place
part_stand _ = stand.Inside

-- where the parts of a `post` stand: the whole stands where it does
abbrev pub stand_before : {m : _} → Stand → Row_of-Suffix m → Stand
stand_before s end_of-Suffix = s
stand_before s (more_of-Suffix x xs) = part_stand s

-- where an argument stands
abbrev pub argument_stand : Want → Stand
argument_stand want = if wants_variable want then stand.Place else stand.Inside

-- whether arguments follow
abbrev pub is_call : Suffix → Bool
is_call (Call' p xs) = true
is_call _ = false

abbrev pub begins_with_call : {m : _} → Row_of-Suffix m → Bool
begins_with_call end_of-Suffix = false
begins_with_call (more_of-Suffix x xs) = is_call x

unfoldable pub read_as : ℕ → Checked Head → Checked Typed
read_as line walked = walked >>= value_of line

unfoldable mutual
  pub walk : Context → Stand → Expr → Checked Head
  walk c s (Conditional' line p (more_of-Expr x end_of-Expr) q (more_of-Expr y end_of-Expr) r (more_of-Expr z end_of-Expr)) = do
    condition ← read_as (line_of x) (walk c stand.Inside x)
    when_true ← read_as (line_of y) (walk c stand.Inside y)
    when_false ← read_as (line_of z) (walk c stand.Inside z)
    conditional line condition when_true when_false
  walk c s (Chain' line p (more_of-Expr x end_of-Expr) q links) = do
    first ← read_as (line_of x) (walk c stand.Inside x)
    rest ← walk_links c links
    chain c.outline.classes line first rest
  walk c s (Unary' line operator p (more_of-Expr x end_of-Expr)) = do
    operand ← read_as (line_of x) (walk c stand.Inside x)
    unary line operator operand
  walk c s (Postfix' line primary_line form p suffixes) = do
    first ← walk_form c (begins_with_call suffixes) line form
    walk_suffixes c s line first suffixes

  pub walk_links : {m : _} → Context → Row_of-Link m → Checked (List Link)
  walk_links c end_of-Link = Ok []
  walk_links c (more_of-Link operator x links) = do
    operand ← read_as (line_of x) (walk c stand.Inside x)
    rest ← walk_links c links
    Ok ((operator, operand) ∷ rest)

  pub walk_values : {m : _} → Context → Row_of-Expr m → Checked (List Typed)
  walk_values c end_of-Expr = Ok []
  walk_values c (more_of-Expr x xs) = do
    first ← read_as (line_of x) (walk c stand.Inside x)
    rest ← walk_values c xs
    Ok (first ∷ rest)

  pub walk_form : Context → Bool → ℕ → PrimaryForm → Checked Head
  walk_form c is_callee line (form.Number n) = Ok (h.Number n)
  walk_form c is_callee line (form.Str s) = Ok (h.Str s)
  walk_form c is_callee line (form.Name word) = name c is_callee line word
  walk_form c is_callee line form.Null = Ok (h.Value (typed e.Null t.Null))
  walk_form c is_callee line form.This = refuse wrong_type line
  walk_form c is_callee line form.Super = refuse wrong_type line
  walk_form c is_callee line form.New = Ok h.New
  walk_form c is_callee line (Parentheses' p (more_of-Expr x end_of-Expr)) = do
    inner ← read_as (line_of x) (walk c stand.Inside x)
    Ok (h.Value inner)
  walk_form c is_callee line (Concatenation' p parts) = do
    all ← walk_values c parts
    concatenation line all
  walk_form c is_callee line (Replication' p (more_of-Expr n end_of-Expr) q parts) = do
    count ← constant c.scopes n
    all ← walk_values c parts
    replication line count all

  pub walk_suffixes : {m : _} → Context → Stand → ℕ → Head → Row_of-Suffix m → Checked Head
  walk_suffixes c s line head end_of-Suffix = Ok head
  walk_suffixes c s line head (more_of-Suffix x xs) = do
    next ← walk_suffix c (stand_before s xs) line head x
    walk_suffixes c s line next xs

  pub walk_suffix : Context → Stand → ℕ → Head → Suffix → Checked Head
  walk_suffix c s line head (suffix.Member word) = member c line head word
  walk_suffix c s line head suffix.New = refuse wrong_type line
  walk_suffix c s line head (Index' p (more_of-Expr x end_of-Expr)) = do
    i ← read_as (line_of x) (walk c stand.Inside x)
    index s line head i
  walk_suffix c s line head (Bits' p (more_of-Expr x end_of-Expr) q (more_of-Expr y end_of-Expr)) = do
    high ← constant c.scopes x
    low ← constant c.scopes y
    bits s line head high low
  walk_suffix c s line head (Call' p xs) = do
    arguments ← walk_arguments c (modes_taken head) (wanted c.outline head) xs
    call c.outline c.body s line head arguments

  pub walk_arguments : {m : _} → Context → (Mode → Bool) → Wants → Row_of-Expr m → Checked (List Argument)
  walk_arguments c takes wants end_of-Expr = Ok []
  walk_arguments c takes wants (more_of-Expr x xs) = do
    head ← walk c (argument_stand (next_want wants)) x
    first ← argument takes (next_want wants) (line_of x) head
    rest ← walk_arguments c takes (after_next wants) xs
    Ok (first ∷ rest)

-- an expression that is read where it stands
unfoldable pub expr : Context → Expr → Checked Typed
expr c x = read_as (line_of x) (walk c stand.Inside x)
