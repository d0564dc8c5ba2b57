-- Constants: unsized decimals, names of enumerations, `+`, `-`, `*` and parentheses.
use Rattle.std.specs.Prelude.{ℕ, ℤ, pos, ◌+ℤ◌, ◌-ℤ◌, ◌*ℤ◌, nat_le, Bool, true, false, if◌then◌else◌, Option, Some, None, Ok}
use Rattle.four_state.specs.Numbers.{number_of}
use Rattle.vera_ast.specs.declared.tree.expressions.ChainOperator.{ChainOperator}
use Rattle.vera_ast.specs.declared.tree.expressions.ChainOperator.TheVariants.{Add, Subtract, Multiply}
use Rattle.vera_ast.specs.declared.tree.expressions.Expr.{Expr, Row_of-Expr, end_of-Expr, more_of-Expr}
use Rattle.vera_ast.specs.declared.tree.expressions.Expr.TheVariants.{Chain', Conditional', Unary', Postfix'}
use Rattle.vera_ast.specs.declared.tree.expressions.Expr.TheBlock.{Parentheses', Concatenation', Replication', Index', Bits', Call', Row_of-Link, end_of-Link, more_of-Link, Row_of-Suffix, end_of-Suffix, more_of-Suffix}
use Rattle.vera_ast.specs.declared.tree.expressions.Number.{Number}
use Rattle.vera_ast.specs.declared.tree.expressions.PrimaryForm.{PrimaryForm}
use Rattle.vera_ast.specs.declared.tree.expressions.PrimaryForm.TheVariants as form
use Rattle.vera_ast.specs.declared.tree.expressions.Suffix.{Suffix}
use Rattle.vera_ast.specs.Lines.{line_of}
use Rattle.typing_rules.specs.Checked.{Checked, ◌>>◌, known, unknown_name, wrong_type}
use Rattle.typing_rules.specs.Scopes.{Scopes, Name, meaning_of}
use Rattle.typing_rules.specs.Words.{is_word}
use Rattle.typing_rules.specs.declared.names.Meaning.{Meaning}
use Rattle.typing_rules.specs.declared.names.Meaning.TheVariants.{EnumName}

-- ---- the names of a constant are looked up first, wherever they stand in it

-- a name that stands for something, or the name of a built-in call or a mode word
unfoldable pub name_known : Scopes → ℕ → Name → Checked (Unit {0})
name_known scopes line name = if is_word name then Ok tt else (known unknown_name line (meaning_of scopes name) >> Ok tt)

unfoldable mutual
  pub names_known : Scopes → Expr → Checked (Unit {0})
  names_known scopes (Conditional' line p (more_of-Expr a end_of-Expr) q (more_of-Expr b end_of-Expr) r (more_of-Expr c end_of-Expr)) =
      names_known scopes a >> names_known scopes b >> names_known scopes c
  names_known scopes (Chain' line p (more_of-Expr first end_of-Expr) q links) = names_known scopes first >> link_names_known scopes links
  names_known scopes (Unary' line operator p (more_of-Expr operand end_of-Expr)) = names_known scopes operand
  names_known scopes (Postfix' line primary_line form p suffixes) = form_names_known scopes primary_line form >> suffix_names_known scopes suffixes

  pub all_names_known : {m : _} → Scopes → Row_of-Expr m → Checked (Unit {0})
  all_names_known scopes end_of-Expr = Ok tt
  all_names_known scopes (more_of-Expr x xs) = names_known scopes x >> all_names_known scopes xs

  pub link_names_known : {m : _} → Scopes → Row_of-Link m → Checked (Unit {0})
  link_names_known scopes end_of-Link = Ok tt
  link_names_known scopes (more_of-Link operator x links) = names_known scopes x >> link_names_known scopes links

  pub form_names_known : Scopes → ℕ → PrimaryForm → Checked (Unit {0})
  form_names_known scopes line (form.Name name) = name_known scopes line name
  form_names_known scopes line (Parentheses' p (more_of-Expr x end_of-Expr)) = names_known scopes x
  form_names_known scopes line (Concatenation' p parts) = all_names_known scopes parts
  form_names_known scopes line (Replication' p (more_of-Expr n end_of-Expr) q parts) = names_known scopes n >> all_names_known scopes parts
  form_names_known scopes line _ = Ok tt

  pub suffix_names_known : {m : _} → Scopes → Row_of-Suffix m → Checked (Unit {0})
  suffix_names_known scopes end_of-Suffix = Ok tt
  suffix_names_known scopes (more_of-Suffix x xs) = one_suffix_known scopes x >> suffix_names_known scopes xs

  pub one_suffix_known : Scopes → Suffix → Checked (Unit {0})
  one_suffix_known scopes (Index' p (more_of-Expr x end_of-Expr)) = names_known scopes x
  one_suffix_known scopes (Bits' p (more_of-Expr x end_of-Expr) q (more_of-Expr y end_of-Expr)) = names_known scopes x >> names_known scopes y
  one_suffix_known scopes (Call' p xs) = all_names_known scopes xs
  one_suffix_known scopes _ = Ok tt

-- ---- the number of a constant, if it is one; between its parts any whole number may come

abbrev pub decimal : Number → Option ℤ
decimal n = if n.is_decimal then Some (pos (number_of n.value)) else None

abbrev pub enum_value : Option Meaning → Option ℤ
enum_value (Some (EnumName e)) = Some (pos e.value)
enum_value _ = None

abbrev pub combined : ChainOperator → ℤ → ℤ → Option ℤ
combined Add a b = Some (a +ℤ b)
combined Subtract a b = Some (a -ℤ b)
combined Multiply a b = Some (a *ℤ b)
combined _ a b = None

abbrev pub both : Option ℤ → Option ℤ → (ℤ → ℤ → Option ℤ) → Option ℤ
both (Some a) (Some b) f = f a b
both _ _ f = None

-- whether no suffix comes
abbrev pub ends : {m : _} → Row_of-Suffix m → Bool
ends end_of-Suffix = true
ends (more_of-Suffix x xs) = false

unfoldable mutual
  pub number_in : Scopes → Expr → Option ℤ
  number_in scopes (Chain' line p (more_of-Expr first end_of-Expr) q links) = number_after scopes (number_in scopes first) links
  number_in scopes (Postfix' line primary_line form p suffixes) = if ends suffixes then number_of_form scopes form else None
  number_in scopes _ = None

  pub number_after : {m : _} → Scopes → Option ℤ → Row_of-Link m → Option ℤ
  number_after scopes left end_of-Link = left
  number_after scopes left (more_of-Link operator x links) = number_after scopes (both left (number_in scopes x) (combined operator)) links

  pub number_of_form : Scopes → PrimaryForm → Option ℤ
  number_of_form scopes (form.Number n) = decimal n
  number_of_form scopes (form.Name name) = enum_value (meaning_of scopes name)
  number_of_form scopes (Parentheses' p (more_of-Expr x end_of-Expr)) = number_in scopes x
  number_of_form scopes _ = None

-- the value of a constant is 0 to 2,147,483,647
abbrev pub in_range : Option ℤ → Option ℕ
in_range (Some (pos n)) = if nat_le n 2147483647 then Some n else None
in_range _ = None

unfoldable pub constant : Scopes → Expr → Checked ℕ
constant scopes x = names_known scopes x >> known wrong_type (line_of x) (in_range (number_in scopes x))
