-- The constructs in an expression that aren't built yet: the lines of their first tokens, in text order. A construct that
-- isn't built has its own line alone, since whatever stands in it comes behind its first token.
use Rattle.std.specs.Prelude.{ℕ, Bool, true, false, ◌&&◌, if◌then◌else◌, List, [], ◌∷◌, ◌++◌}
use Rattle.vera_ast.specs.declared.tree.expressions.ChainOperator.{ChainOperator}
use Rattle.vera_ast.specs.declared.tree.expressions.ChainOperator.TheVariants as operator
use Rattle.vera_ast.specs.declared.tree.expressions.Expr.{Expr, end_of-Expr, more_of-Expr}
use Rattle.vera_ast.specs.declared.tree.expressions.Expr.TheVariants.{Chain', Conditional', Unary', Postfix'}
use Rattle.vera_ast.specs.declared.tree.expressions.Expr.TheBlock.{Parentheses', Row_of-Link, end_of-Link, more_of-Link, Row_of-Suffix, end_of-Suffix, more_of-Suffix}
use Rattle.vera_ast.specs.declared.tree.expressions.Number.{Number}
use Rattle.vera_ast.specs.declared.tree.expressions.PrimaryForm.{PrimaryForm}
use Rattle.vera_ast.specs.declared.tree.expressions.PrimaryForm.TheVariants as form
use Rattle.vera_ast.specs.declared.tree.expressions.Suffix.{Suffix}
use Rattle.vera_ast.specs.declared.tree.expressions.Suffix.TheVariants as suffix

-- ---- chains

-- the operators of sums and comparisons
abbrev pub is_built : ChainOperator → Bool
is_built operator.Add = true
is_built operator.Subtract = true
is_built operator.Less = true
is_built operator.LessEqual = true
is_built operator.Greater = true
is_built operator.GreaterEqual = true
is_built operator.Equal = true
is_built operator.NotEqual = true
is_built _ = false

unfoldable pub operators_built : {m : _} → Row_of-Link m → Bool
operators_built end_of-Link = true
operators_built (more_of-Link o x links) = is_built o && operators_built links

-- ---- name, and name "." name

abbrev pub is_name : PrimaryForm → Bool
is_name (form.Name word) = true
is_name _ = false

abbrev pub is_member : Suffix → Bool
is_member (suffix.Member word) = true
is_member _ = false

abbrev pub nothing_follows : {m : _} → Row_of-Suffix m → Bool
nothing_follows end_of-Suffix = true
nothing_follows (more_of-Suffix x xs) = false

-- nothing, or one "." name
abbrev pub member_at_most : {m : _} → Row_of-Suffix m → Bool
member_at_most end_of-Suffix = true
member_at_most (more_of-Suffix x xs) = nothing_follows xs && is_member x

abbrev pub is_variable : Expr → Bool
is_variable (Postfix' line own form p suffixes) = is_name form && member_at_most suffixes
is_variable _ = false

-- ---- expressions

-- a decimal literal is built, a based one isn't
abbrev pub number_lines : ℕ → Number → List ℕ
number_lines line n = if n.is_decimal then [] else line ∷ []

unfoldable mutual
  pub expr_lines : Expr → List ℕ
  expr_lines (Conditional' line p x q y r z) = line ∷ []
  expr_lines (Chain' line p (more_of-Expr x end_of-Expr) q links) = if operators_built links then expr_lines x ++ operand_lines links else line ∷ []
  expr_lines (Unary' line o p x) = line ∷ []
  expr_lines (Postfix' line own form p suffixes) =
      if is_name form && member_at_most suffixes then [] else (if nothing_follows suffixes then form_lines own form else line ∷ [])

  pub operand_lines : {m : _} → Row_of-Link m → List ℕ
  operand_lines end_of-Link = []
  operand_lines (more_of-Link o x links) = expr_lines x ++ operand_lines links

  pub form_lines : ℕ → PrimaryForm → List ℕ
  form_lines line (form.Number n) = number_lines line n
  form_lines line (form.Name word) = []
  form_lines line (Parentheses' p (more_of-Expr x end_of-Expr)) = expr_lines x
  form_lines line _ = line ∷ []
