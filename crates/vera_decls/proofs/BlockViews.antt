-- The blocks in statements, as the code reads their trees.
use Rattle.std.proofs.Common.{◌≡◌, ℕ, List, [], ◌∷◌, ◌++◌, Option, Some, None, refl, ap}
use mathlib.Core.Former.{Count}
use Rattle.vera_ast.proofs.StmtViews.{block-is, if-is, while-is, repeat-is, for-is, case-is, fork-is, no_stmts-is, stmts-is, no_arms-is, arms-is, no_alternative-is, alternative-is}
use Rattle.vera_ast.specs.declared.tree.expressions.Expr.{Expr}
use Rattle.vera_ast.specs.declared.tree.statements.Stmt.{Stmt, Row_of-Stmt}
use Rattle.vera_ast.specs.declared.tree.statements.Stmt.TheViews as views
use Rattle.vera_ast.specs.declared.tree.statements.Stmt.TheBlock.{Row_of-Arm, Held-If-when_false, hidden-the_row-Stmt-0 as stmts, hidden-the_row-Arm-2 as arms, back-If-when_false as alternative}
use Rattle.vera_ast.specs.declared.tree.statements.Arm.{Arm}
use Rattle.vera_ast.specs.declared.tree.statements.Block.{Block}
use Rattle.vera_ast.specs.declared.tree.statements.For.{For}
use Rattle.vera_ast.specs.declared.tree.statements.Fork.{Fork}
use Rattle.vera_ast.specs.declared.tree.statements.If.{If}
use Rattle.vera_ast.specs.declared.tree.statements.Repeat.{Repeat}
use Rattle.vera_ast.specs.declared.tree.statements.While.{While}
use Rattle.typing_rules.specs.DataTypes.{names_in}
use Rattle.typing_rules.specs.Declarations.{Part, decl_parts, stmt_parts, stmts_parts, otherwise_parts, arms_parts, each_parts}
use Rattle.typing_rules.specs.Scopes.{Scopes, later}
use Rattle.vera_decls.specs.Walks.{block_inside, arm_list_parts}

-- ---- rows

stmts_row : (scopes : Scopes) (xs : List Stmt) → stmts_parts scopes (stmts xs) ≡ each_parts scopes xs
unfolding stmt_parts stmts_parts each_parts
stmts_row scopes [] = no_stmts-is (λ (m : Count) (row : Row_of-Stmt m). stmts_parts scopes row ≡ []) refl
stmts_row scopes (x ∷ xs) = stmts-is (λ (m : Count) (row : Row_of-Stmt m). stmts_parts scopes row ≡ stmt_parts scopes x ++ each_parts scopes xs) x xs
    (ap (λ (ps : List Part). stmt_parts scopes x ++ ps) (stmts_row scopes xs))

arms_row : (scopes : Scopes) (xs : List Arm) → arms_parts scopes (arms xs) ≡ arm_list_parts scopes xs
unfolding stmt_parts arms_parts
arms_row scopes [] = no_arms-is (λ (m : Count) (row : Row_of-Arm m). arms_parts scopes row ≡ []) refl
arms_row scopes (x ∷ xs) = arms-is (λ (m : Count) (row : Row_of-Arm m). arms_parts scopes row ≡ stmt_parts scopes x.body ++ arm_list_parts scopes xs) x xs
    (ap (λ (ps : List Part). stmt_parts scopes x.body ++ ps) (arms_row scopes xs))

abbrev pub option_parts : Scopes → Option Stmt → List Part
option_parts scopes None = []
option_parts scopes (Some x) = stmt_parts scopes x

otherwise_row : (scopes : Scopes) (o : Option Stmt) → otherwise_parts scopes (alternative o) ≡ option_parts scopes o
unfolding stmt_parts otherwise_parts
otherwise_row scopes None = no_alternative-is (λ (h : Held-If-when_false). otherwise_parts scopes h ≡ []) refl
otherwise_row scopes (Some x) = alternative-is (λ (h : Held-If-when_false). otherwise_parts scopes h ≡ stmt_parts scopes x) x (λ p. refl)

-- ---- one lemma a production

pub inner_parts : (scopes : Scopes) (b : Block) → stmt_parts scopes (views.Block b) ≡ block_inside scopes b.decls b.stmts
unfolding stmt_parts stmts_parts
inner_parts scopes b = block-is (λ s. stmt_parts scopes s ≡ block_inside scopes b.decls b.stmts) b
    (ap (λ (ps : List Part). decl_parts (later (names_in b.decls) ∷ scopes) [] b.decls ++ ps) (stmts_row (later (names_in b.decls) ∷ scopes) b.stmts))

pub if_parts : (scopes : Scopes) (x : If) → stmt_parts scopes (views.If x) ≡ stmt_parts scopes x.when_true ++ option_parts scopes x.when_false
unfolding stmt_parts otherwise_parts
if_parts scopes x = if-is (λ s. stmt_parts scopes s ≡ stmt_parts scopes x.when_true ++ option_parts scopes x.when_false) x
    (λ p. ap (λ (ps : List Part). stmt_parts scopes x.when_true ++ ps) (otherwise_row scopes x.when_false))

pub while_parts : (scopes : Scopes) (w : While) → stmt_parts scopes (views.While w) ≡ stmt_parts scopes w.body
unfolding stmt_parts
while_parts scopes w = while-is (λ s. stmt_parts scopes s ≡ stmt_parts scopes w.body) w (λ p. refl)

pub repeat_parts : (scopes : Scopes) (r : Repeat) → stmt_parts scopes (views.Repeat r) ≡ stmt_parts scopes r.body
unfolding stmt_parts
repeat_parts scopes r = repeat-is (λ s. stmt_parts scopes s ≡ stmt_parts scopes r.body) r (λ p. refl)

pub for_parts : (scopes : Scopes) (f : For) → stmt_parts scopes (views.For f) ≡ stmt_parts scopes f.body
unfolding stmt_parts
for_parts scopes f = for-is (λ s. stmt_parts scopes s ≡ stmt_parts scopes f.body) f (λ p. refl)

pub case_parts : (scopes : Scopes) (line : ℕ) (value : Expr) (xs : List Arm) → stmt_parts scopes (views.Case line value xs) ≡ arm_list_parts scopes xs
unfolding stmt_parts arms_parts
case_parts scopes line value xs = case-is (λ s. stmt_parts scopes s ≡ arm_list_parts scopes xs) line value xs (arms_row scopes xs)

pub fork_parts : (scopes : Scopes) (f : Fork) → stmt_parts scopes (views.Fork f) ≡ each_parts scopes f.branches
unfolding stmt_parts stmts_parts
fork_parts scopes f = fork-is (λ s. stmt_parts scopes s ≡ each_parts scopes f.branches) f (stmts_row scopes f.branches)
