-- The constructs in declarations and statements that aren't built yet: the lines of their first tokens, in text order. As
-- for expressions, a construct that isn't built has its own line alone.
use Rattle.std.specs.Prelude.{ℕ, Bool, true, false, ◌&&◌, ◌||◌, if◌then◌else◌, List, [], ◌∷◌, ◌++◌, is_some, codes}
use Rattle.std.specs.Str.{bytes_eq}
use Rattle.vera_ast.specs.Lines.{stmt_line}
use Rattle.vera_ast.specs.declared.tree.declarations.Bracket.{Bracket}
use Rattle.vera_ast.specs.declared.tree.declarations.Bracket.TheVariants as bracket
use Rattle.vera_ast.specs.declared.tree.declarations.Decl.{Decl}
use Rattle.vera_ast.specs.declared.tree.declarations.TypeForm.{TypeForm}
use Rattle.vera_ast.specs.declared.tree.declarations.TypeForm.TheVariants as of
use Rattle.vera_ast.specs.declared.tree.declarations.Variable.{Variable}
use Rattle.vera_ast.specs.declared.tree.expressions.Expr.{Expr, Row_of-Expr, end_of-Expr, more_of-Expr}
use Rattle.vera_ast.specs.declared.tree.expressions.Expr.TheVariants as x
use Rattle.vera_ast.specs.declared.tree.expressions.Expr.TheVariants.{Postfix'}
use Rattle.vera_ast.specs.declared.tree.expressions.Expr.TheBlock.{Call'}
use Rattle.vera_ast.specs.declared.tree.expressions.Postfix.{Postfix}
use Rattle.vera_ast.specs.declared.tree.expressions.PrimaryForm.{PrimaryForm}
use Rattle.vera_ast.specs.declared.tree.expressions.PrimaryForm.TheVariants as form
use Rattle.vera_ast.specs.declared.tree.expressions.Suffix.{Suffix}
use Rattle.vera_ast.specs.declared.tree.statements.Block.{Block}
use Rattle.vera_ast.specs.declared.tree.statements.Change.{Change}
use Rattle.vera_ast.specs.declared.tree.statements.Change.TheVariants as change
use Rattle.vera_ast.specs.declared.tree.statements.Edge.{Edge}
use Rattle.vera_ast.specs.declared.tree.statements.Step.{Step}
use Rattle.vera_ast.specs.declared.tree.statements.Stmt.{Stmt, Row_of-Stmt, end_of-Stmt, more_of-Stmt}
use Rattle.vera_ast.specs.declared.tree.statements.Stmt.TheBlock.{Block', While'}
use Rattle.vera_ast.specs.declared.tree.statements.Stmt.TheVariants as s
use Rattle.not_built.specs.Expressions.{is_variable, nothing_follows, expr_lines}
use Rattle.not_built.specs.Lines.{each}

-- ---- declarations: "integer" name { "," name } ";"

abbrev pub has_bracket : Bracket → Bool
has_bracket bracket.None = false
has_bracket _ = true

abbrev pub is_integer : TypeForm → Bool
is_integer of.Integer = true
is_integer _ = false

unfoldable pub variable_lines : Variable → List ℕ
variable_lines v = if has_bracket v.bracket || is_some v.value then v.line ∷ [] else []

unfoldable pub decl_lines : Decl → List ℕ
decl_lines d = if is_integer d.of.form then each variable_lines d.variables else d.line ∷ []

-- ---- steps: name "=" expr, and name "." name "=" expr

abbrev pub change_lines : ℕ → Change → List ℕ
change_lines line (change.Assign value) = expr_lines value
change_lines line _ = line ∷ []

unfoldable pub step_lines : Step → List ℕ
step_lines a = if is_variable (x.Postfix a.target) then change_lines a.line a.change else a.line ∷ []

-- ---- the call "printf" "(" "\"%0d\\n\"" "," expr ")", with the line of its first token for anything else

abbrev pub is_printf : PrimaryForm → Bool
is_printf (form.Name word) = bytes_eq word (codes "printf")
is_printf _ = false

-- `%0d` and a line feed
abbrev pub is_format_text : PrimaryForm → Bool
is_format_text (form.Str text) = bytes_eq text (37 ∷ 48 ∷ 100 ∷ 10 ∷ [])
is_format_text _ = false

abbrev pub is_format : Expr → Bool
is_format (Postfix' line own form p suffixes) = is_format_text form && nothing_follows suffixes
is_format _ = false

abbrev pub no_arguments : {m : _} → Row_of-Expr m → Bool
no_arguments end_of-Expr = true
no_arguments (more_of-Expr x xs) = false

-- behind the format one value
abbrev pub value_lines : {m : _} → ℕ → Row_of-Expr m → List ℕ
value_lines line end_of-Expr = line ∷ []
value_lines line (more_of-Expr value xs) = if no_arguments xs then expr_lines value else line ∷ []

abbrev pub argument_lines : {m : _} → ℕ → Row_of-Expr m → List ℕ
argument_lines line end_of-Expr = line ∷ []
argument_lines line (more_of-Expr first xs) = if is_format first then value_lines line xs else line ∷ []

abbrev pub suffix_lines : ℕ → Suffix → List ℕ
suffix_lines line (Call' p arguments) = argument_lines line arguments
suffix_lines line _ = line ∷ []

-- behind the name one suffix
abbrev pub called_lines : ℕ → List Suffix → List ℕ
called_lines line [] = line ∷ []
called_lines line (suffix ∷ []) = suffix_lines line suffix
called_lines line (suffix ∷ (next ∷ more)) = line ∷ []

unfoldable pub call_lines : Postfix → List ℕ
call_lines call = if is_printf call.primary.form then called_lines call.line call.suffixes else call.line ∷ []

-- ---- statements

-- the clock's rising edge is built
unfoldable pub edge_lines : Edge → List ℕ
edge_lines e = if e.negative then e.line ∷ [] else []

-- the declarations of a block that is a statement: none is built
abbrev pub inner_lines : Decl → List ℕ
inner_lines d = d.line ∷ []

unfoldable mutual
  pub stmt_lines : Stmt → List ℕ
  stmt_lines (Block' line decls p stmts) = each inner_lines decls ++ stmts_lines stmts
  stmt_lines (s.Step step) = step_lines step
  stmt_lines (s.Call call) = call_lines call
  stmt_lines (s.Edge edge) = edge_lines edge
  stmt_lines (While' line condition p (more_of-Stmt body end_of-Stmt)) = expr_lines condition ++ stmt_lines body
  stmt_lines other = stmt_line other ∷ []

  pub stmts_lines : {m : _} → Row_of-Stmt m → List ℕ
  stmts_lines end_of-Stmt = []
  stmts_lines (more_of-Stmt stmt stmts) = stmt_lines stmt ++ stmts_lines stmts

unfoldable pub block_lines : Block → List ℕ
block_lines b = each decl_lines b.decls ++ each stmt_lines b.stmts
