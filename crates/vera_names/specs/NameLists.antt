-- The names of constants, over lists of parts.
use Rattle.std.specs.Prelude.{List, [], ◌∷◌, Ok, Err}
use Rattle.vera_ast.specs.declared.tree.expressions.Expr.{Expr}
use Rattle.vera_ast.specs.declared.tree.expressions.Link.{Link}
use Rattle.vera_ast.specs.declared.tree.expressions.Suffix.{Suffix}
use Rattle.typing_rules.specs.Checked.{Checked}
use Rattle.typing_rules.specs.Constants.{names_known, one_suffix_known}
use Rattle.typing_rules.specs.Scopes.{Scopes}

-- one part after the other
abbrev pub in_turn : Checked (Unit {0}) → Checked (Unit {0}) → Checked (Unit {0})
in_turn (Ok u) next = next
in_turn (Err r) next = Err r

abbrev pub exprs_known : Scopes → List Expr → Checked (Unit {0})
exprs_known scopes [] = Ok tt
exprs_known scopes (x ∷ xs) = in_turn (names_known scopes x) (exprs_known scopes xs)

abbrev pub links_known : Scopes → List Link → Checked (Unit {0})
links_known scopes [] = Ok tt
links_known scopes (l ∷ ls) = in_turn (names_known scopes l.operand) (links_known scopes ls)

abbrev pub suffixes_known : Scopes → List Suffix → Checked (Unit {0})
suffixes_known scopes [] = Ok tt
suffixes_known scopes (x ∷ xs) = in_turn (one_suffix_known scopes x) (suffixes_known scopes xs)
