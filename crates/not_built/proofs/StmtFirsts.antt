-- The first line of declarations and statements, as the code reads their trees.
use Rattle.std.proofs.Common.{◌≡◌, ℕ, Bool, true, false, List, [], ◌∷◌, ◌++◌, Option, Some, refl, ap, ◌∙◌}
use Rattle.std.specs.Prelude.{◌&&◌, if◌then◌else◌}
use Rattle.std.specs.Option.{option_or}
use mathlib.Core.Former.{Count}
use Rattle.vera_ast.proofs.ExprViews.{conditional-is, chain-is, unary-is, postfix-is, index-is, bits-is, call-is, no_exprs-is, exprs-is}
use Rattle.vera_ast.proofs.StmtViews.{block-is, if-is, while-is, repeat-is, for-is, case-is, fork-is, no_stmts-is, stmts-is}
use Rattle.vera_ast.specs.Lines.{stmt_line}
use Rattle.vera_ast.specs.declared.tree.declarations.Decl.{Decl}
use Rattle.vera_ast.specs.declared.tree.expressions.Expr.{Expr, Row_of-Expr}
use Rattle.vera_ast.specs.declared.tree.expressions.Expr.TheViews as expr
use Rattle.vera_ast.specs.declared.tree.expressions.Expr.TheBlock.{hidden-the_row-Expr-3 as exprs}
use Rattle.vera_ast.specs.declared.tree.expressions.Conditional.{Conditional}
use Rattle.vera_ast.specs.declared.tree.expressions.Link.{Link}
use Rattle.vera_ast.specs.declared.tree.expressions.Postfix.{Postfix}
use Rattle.vera_ast.specs.declared.tree.expressions.Unary.{Unary}
use Rattle.vera_ast.specs.declared.tree.statements.Stmt.{Stmt, Row_of-Stmt}
use Rattle.vera_ast.specs.declared.tree.statements.Stmt.TheViews as views
use Rattle.vera_ast.specs.declared.tree.statements.Stmt.TheBlock.{hidden-the_row-Stmt-0 as stmts}
use Rattle.vera_ast.specs.declared.tree.statements.Arm.{Arm}
use Rattle.vera_ast.specs.declared.tree.statements.Block.{Block}
use Rattle.vera_ast.specs.declared.tree.statements.For.{For}
use Rattle.vera_ast.specs.declared.tree.statements.Fork.{Fork}
use Rattle.vera_ast.specs.declared.tree.statements.If.{If}
use Rattle.vera_ast.specs.declared.tree.statements.Repeat.{Repeat}
use Rattle.vera_ast.specs.declared.tree.statements.Step.{Step}
use Rattle.vera_ast.specs.declared.tree.statements.While.{While}
use Rattle.not_built.proofs.ExprFirsts.{empty_row, variable_row}
use Rattle.not_built.proofs.Firsts.{first_append, first_each, first_where}
use Rattle.not_built.specs.Lines.{first, each}
use Rattle.not_built.specs.Expressions.{expr_lines}
use Rattle.not_built.specs.Passing.{first_in, is_empty, names_variable, printed, first_behind, inner_first}
use Rattle.not_built.specs.Statements.{is_integer, variable_lines, decl_lines, change_lines, step_lines, is_format_text, is_format, no_arguments, value_lines, argument_lines, suffix_lines, inner_lines, stmt_lines, stmts_lines, block_lines}

-- ---- declarations and steps

pub decl_first : (d : Decl) → first (decl_lines d) ≡ (if is_integer d.of.form then first_in variable_lines d.variables else Some d.line)
unfolding decl_lines
decl_first d =
    first_where (is_integer d.of.form) (each variable_lines d.variables) (d.line ∷ [])
    ∙ ap (λ (o : Option ℕ). if is_integer d.of.form then o else Some d.line) (first_each variable_lines d.variables)

pub step_first : (a : Step) → first (step_lines a) ≡ (if names_variable a.target then first (change_lines a.line a.change) else Some a.line)
unfolding step_lines
step_first a =
    ap (λ (b : Bool). first (if b then change_lines a.line a.change else a.line ∷ [])) (variable_row a.target)
    ∙ first_where (names_variable a.target) (change_lines a.line a.change) (a.line ∷ [])

-- ---- the format of a `printf`

pub postfix_format : (post : Postfix) → is_format (expr.Postfix post) ≡ (is_format_text post.primary.form && is_empty post.suffixes)
postfix_format post = postfix-is (λ e. is_format e ≡ (is_format_text post.primary.form && is_empty post.suffixes)) post
    (ap (λ (b : Bool). is_format_text post.primary.form && b) (empty_row post.suffixes))

pub conditional_format : (c : Conditional) → is_format (expr.Conditional c) ≡ false
conditional_format c = conditional-is (λ e. is_format e ≡ false) c (λ p q r. refl)

pub chain_format : (line : ℕ) (x : Expr) (ls : List Link) → is_format (expr.Chain line x ls) ≡ false
chain_format line x ls = chain-is (λ e. is_format e ≡ false) line x ls (λ p. refl)

pub unary_format : (u : Unary) → is_format (expr.Unary u) ≡ false
unary_format u = unary-is (λ e. is_format e ≡ false) u (λ p. refl)

-- ---- the arguments of a `printf`

no_more : no_arguments (exprs []) ≡ true
no_more = no_exprs-is (λ (m : Count) (row : Row_of-Expr m). no_arguments row ≡ true) refl

some_more : (x : Expr) (xs : List Expr) → no_arguments (exprs (x ∷ xs)) ≡ false
some_more x xs = exprs-is (λ (m : Count) (row : Row_of-Expr m). no_arguments row ≡ false) x xs refl

-- behind the format
abbrev valued : ℕ → List Expr → Option ℕ
valued line [] = Some line
valued line (value ∷ []) = first (expr_lines value)
valued line (value ∷ (more ∷ rest)) = Some line

value_row : (line : ℕ) (xs : List Expr) → first (value_lines line (exprs xs)) ≡ valued line xs
value_row line [] = no_exprs-is (λ (m : Count) (row : Row_of-Expr m). first (value_lines line row) ≡ Some line) refl
value_row line (x ∷ []) = exprs-is (λ (m : Count) (row : Row_of-Expr m). first (value_lines line row) ≡ first (expr_lines x)) x []
    (ap (λ (b : Bool). first (if b then expr_lines x else line ∷ [])) no_more)
value_row line (x ∷ (y ∷ ys)) = exprs-is (λ (m : Count) (row : Row_of-Expr m). first (value_lines line row) ≡ Some line) x (y ∷ ys)
    (ap (λ (b : Bool). first (if b then expr_lines x else line ∷ [])) (some_more y ys))

where_same : (b : Bool) (o : Option ℕ) → (if b then o else o) ≡ o
where_same true o = refl
where_same false o = refl

printed_is : (line : ℕ) (x : Expr) (xs : List Expr) → (if is_format x then valued line xs else Some line) ≡ printed line (x ∷ xs)
printed_is line x [] = where_same (is_format x) (Some line)
printed_is line x (y ∷ []) = refl
printed_is line x (y ∷ (z ∷ zs)) = where_same (is_format x) (Some line)

arguments_row : (line : ℕ) (xs : List Expr) → first (argument_lines line (exprs xs)) ≡ printed line xs
arguments_row line [] = no_exprs-is (λ (m : Count) (row : Row_of-Expr m). first (argument_lines line row) ≡ Some line) refl
arguments_row line (x ∷ xs) = exprs-is (λ (m : Count) (row : Row_of-Expr m). first (argument_lines line row) ≡ printed line (x ∷ xs)) x xs
    (first_where (is_format x) (value_lines line (exprs xs)) (line ∷ [])
    ∙ ap (λ (o : Option ℕ). if is_format x then o else Some line) (value_row line xs)
    ∙ printed_is line x xs)

pub call_first : (line : ℕ) (xs : List Expr) → first (suffix_lines line (expr.Call xs)) ≡ printed line xs
call_first line xs = call-is (λ s. first (suffix_lines line s) ≡ printed line xs) xs (arguments_row line xs)

pub index_first : (line : ℕ) (x : Expr) → first (suffix_lines line (expr.Index x)) ≡ Some line
index_first line x = index-is (λ s. first (suffix_lines line s) ≡ Some line) x (λ p. refl)

pub bits_first : (line : ℕ) (x y : Expr) → first (suffix_lines line (expr.Bits x y)) ≡ Some line
bits_first line x y = bits-is (λ s. first (suffix_lines line s) ≡ Some line) x y (λ p q. refl)

-- ---- statements

inner_is : (ds : List Decl) (xs : List Stmt) → first (each inner_lines ds ++ each stmt_lines xs) ≡ first_behind ds xs
inner_is [] xs = first_each stmt_lines xs
inner_is (d ∷ ds) xs = refl

stmts_row : (xs : List Stmt) → stmts_lines (stmts xs) ≡ each stmt_lines xs
unfolding stmts_lines
stmts_row [] = no_stmts-is (λ (m : Count) (row : Row_of-Stmt m). stmts_lines row ≡ []) refl
stmts_row (x ∷ xs) = stmts-is (λ (m : Count) (row : Row_of-Stmt m). stmts_lines row ≡ stmt_lines x ++ each stmt_lines xs) x xs
    (ap (λ (ys : List ℕ). stmt_lines x ++ ys) (stmts_row xs))

pub block_first : (b : Block) → first (block_lines b) ≡ option_or (first_in decl_lines b.decls) (first_in stmt_lines b.stmts)
unfolding block_lines
block_first b =
    first_append (each decl_lines b.decls) (each stmt_lines b.stmts)
    ∙ ap (λ (o : Option ℕ). option_or o (first (each stmt_lines b.stmts))) (first_each decl_lines b.decls)
    ∙ ap (λ (o : Option ℕ). option_or (first_in decl_lines b.decls) o) (first_each stmt_lines b.stmts)

pub inner_block_first : (b : Block) → first (stmt_lines (views.Block b)) ≡ inner_first b
unfolding stmt_lines
inner_block_first b = block-is (λ s. first (stmt_lines s) ≡ inner_first b) b
    (ap (λ (ys : List ℕ). first (each inner_lines b.decls ++ ys)) (stmts_row b.stmts) ∙ inner_is b.decls b.stmts)

pub while_first : (w : While) → first (stmt_lines (views.While w)) ≡ option_or (first (expr_lines w.condition)) (first (stmt_lines w.body))
unfolding stmt_lines
while_first w = while-is (λ s. first (stmt_lines s) ≡ option_or (first (expr_lines w.condition)) (first (stmt_lines w.body))) w (λ p. first_append (expr_lines w.condition) (stmt_lines w.body))

-- a statement that isn't built has its own line
pub if_first : (x : If) → first (stmt_lines (views.If x)) ≡ Some (stmt_line (views.If x))
unfolding stmt_lines
if_first x = if-is (λ s. first (stmt_lines s) ≡ Some (stmt_line s)) x (λ p. refl)

pub repeat_first : (x : Repeat) → first (stmt_lines (views.Repeat x)) ≡ Some (stmt_line (views.Repeat x))
unfolding stmt_lines
repeat_first x = repeat-is (λ s. first (stmt_lines s) ≡ Some (stmt_line s)) x (λ p. refl)

pub for_first : (x : For) → first (stmt_lines (views.For x)) ≡ Some (stmt_line (views.For x))
unfolding stmt_lines
for_first x = for-is (λ s. first (stmt_lines s) ≡ Some (stmt_line s)) x (λ p. refl)

pub case_first : (line : ℕ) (value : Expr) (xs : List Arm) → first (stmt_lines (views.Case line value xs)) ≡ Some (stmt_line (views.Case line value xs))
unfolding stmt_lines
case_first line value xs = case-is (λ s. first (stmt_lines s) ≡ Some (stmt_line s)) line value xs refl

pub fork_first : (x : Fork) → first (stmt_lines (views.Fork x)) ≡ Some (stmt_line (views.Fork x))
unfolding stmt_lines
fork_first x = fork-is (λ s. first (stmt_lines s) ≡ Some (stmt_line s)) x refl
