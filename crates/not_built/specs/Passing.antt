-- The first line of parts, as one passes from part to part.
use Rattle.std.specs.Prelude.{ℕ, Bool, true, false, ◌&&◌, if◌then◌else◌, List, [], ◌∷◌, Option, Some, None}
use Rattle.std.specs.Option.{option_or}
use Rattle.vera_ast.specs.declared.tree.declarations.Decl.{Decl}
use Rattle.vera_ast.specs.declared.tree.expressions.Expr.{Expr}
use Rattle.vera_ast.specs.declared.tree.expressions.Link.{Link}
use Rattle.vera_ast.specs.declared.tree.expressions.Postfix.{Postfix}
use Rattle.vera_ast.specs.declared.tree.expressions.Suffix.{Suffix}
use Rattle.vera_ast.specs.declared.tree.statements.Block.{Block}
use Rattle.vera_ast.specs.declared.tree.statements.Stmt.{Stmt}
use Rattle.not_built.specs.Lines.{first}
use Rattle.not_built.specs.Expressions.{is_built, is_name, is_member, expr_lines}
use Rattle.not_built.specs.Statements.{is_format, stmt_lines}

-- the first line of the first part that has one
abbrev pub first_in : {A : Type 0} → (A → List ℕ) → List A → Option ℕ
first_in lines [] = None
first_in lines (x ∷ xs) = option_or (first (lines x)) (first_in lines xs)

-- ---- the parts of expressions

abbrev pub link_lines : Link → List ℕ
link_lines l = expr_lines l.operand

abbrev pub all_built : List Link → Bool
all_built [] = true
all_built (l ∷ ls) = is_built l.operator && all_built ls

abbrev pub is_empty : List Suffix → Bool
is_empty [] = true
is_empty (x ∷ xs) = false

abbrev pub is_plain : List Suffix → Bool
is_plain [] = true
is_plain (x ∷ xs) = is_empty xs && is_member x

abbrev pub names_variable : Postfix → Bool
names_variable post = is_name post.primary.form && is_plain post.suffixes

-- ---- the arguments of a call that begins on a line

abbrev pub printed : ℕ → List Expr → Option ℕ
printed line [] = Some line
printed line (format ∷ []) = Some line
printed line (format ∷ (value ∷ [])) = if is_format format then first (expr_lines value) else Some line
printed line (format ∷ (value ∷ (more ∷ rest))) = Some line

-- ---- a block that is a statement

abbrev pub first_behind : List Decl → List Stmt → Option ℕ
first_behind [] stmts = first_in stmt_lines stmts
first_behind (d ∷ ds) stmts = Some d.line

abbrev pub inner_first : Block → Option ℕ
inner_first b = first_behind b.decls b.stmts
