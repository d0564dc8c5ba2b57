-- The numbers of constants, over lists of parts.
use Rattle.std.specs.Prelude.{ℤ, List, [], ◌∷◌, Option, None}
use Rattle.vera_ast.specs.declared.tree.expressions.Link.{Link}
use Rattle.vera_ast.specs.declared.tree.expressions.Suffix.{Suffix}
use Rattle.typing_rules.specs.Constants.{number_in, both, combined}
use Rattle.typing_rules.specs.Scopes.{Scopes}

-- the number of a chain, from what stands left of these links on
abbrev pub number_after : Scopes → Option ℤ → List Link → Option ℤ
number_after scopes left [] = left
number_after scopes left (l ∷ ls) = number_after scopes (both left (number_in scopes l.operand) (combined l.operator)) ls

-- a number, where no suffix comes
abbrev pub number_before : Option ℤ → List Suffix → Option ℤ
number_before number [] = number
number_before number (x ∷ xs) = None
