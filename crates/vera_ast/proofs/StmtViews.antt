-- A statement as the code makes it, and as definitions match on it: as for expressions.
use Rattle.std.proofs.Common.{ℕ, List, [], ◌∷◌, Some, None}
use mathlib.Core.Former.{Count}
use Rattle.vera_ast.specs.declared.tree.expressions.Expr.{Expr}
use Rattle.vera_ast.specs.declared.tree.statements.Stmt.{Stmt, Row_of-Stmt, end_of-Stmt, more_of-Stmt}
use Rattle.vera_ast.specs.declared.tree.statements.Stmt.TheViews as views
use Rattle.vera_ast.specs.declared.tree.statements.Stmt.TheBlock.{Block', If', While', Repeat', For', Case', Fork', Row_of-Arm, end_of-Arm, more_of-Arm, Held-If-when_false, None', Some'}
use Rattle.vera_ast.specs.declared.tree.statements.Stmt.TheBlock.{hidden-the_row-Stmt-1, shape-the_row-Stmt-1, hidden-the_row-Stmt-0 as stmts, shape-the_row-Stmt-0 as stmts_shape, hidden-the_row-Arm-2 as arms, shape-the_row-Arm-2 as arms_shape, back-If-when_false as alternative}
use Rattle.vera_ast.specs.declared.tree.statements.Arm.{Arm}
use Rattle.vera_ast.specs.declared.tree.statements.Block.{Block}
use Rattle.vera_ast.specs.declared.tree.statements.For.{For}
use Rattle.vera_ast.specs.declared.tree.statements.Fork.{Fork}
use Rattle.vera_ast.specs.declared.tree.statements.If.{If}
use Rattle.vera_ast.specs.declared.tree.statements.Repeat.{Repeat}
use Rattle.vera_ast.specs.declared.tree.statements.While.{While}

pub block-is : (P : Stmt → Type 0) (b : Block) → P (Block' b.line b.decls (stmts_shape b.stmts) (stmts b.stmts)) → P (views.Block b)
unfolding Rattle.vera_ast.specs.declared.tree.statements.Stmt.TheViews.roll-Stmt denote.Hole.Carrier.roll denote.Hole.Carrier.hidden
block-is P b h = h

pub if-is : (P : Stmt → Type 0) (x : If) → ((p : _) → P (If' x.line x.condition p (more_of-Stmt x.when_true end_of-Stmt) (alternative x.when_false))) → P (views.If x)
unfolding Rattle.vera_ast.specs.declared.tree.statements.Stmt.TheViews.roll-Stmt denote.Hole.Carrier.roll denote.Hole.Carrier.hidden hidden-the_row-Stmt-1 shape-the_row-Stmt-1
if-is P x h = h _

pub while-is : (P : Stmt → Type 0) (w : While) → ((p : _) → P (While' w.line w.condition p (more_of-Stmt w.body end_of-Stmt))) → P (views.While w)
unfolding Rattle.vera_ast.specs.declared.tree.statements.Stmt.TheViews.roll-Stmt denote.Hole.Carrier.roll denote.Hole.Carrier.hidden hidden-the_row-Stmt-1 shape-the_row-Stmt-1
while-is P w h = h _

pub repeat-is : (P : Stmt → Type 0) (r : Repeat) → ((p : _) → P (Repeat' r.line r.count p (more_of-Stmt r.body end_of-Stmt))) → P (views.Repeat r)
unfolding Rattle.vera_ast.specs.declared.tree.statements.Stmt.TheViews.roll-Stmt denote.Hole.Carrier.roll denote.Hole.Carrier.hidden hidden-the_row-Stmt-1 shape-the_row-Stmt-1
repeat-is P r h = h _

pub for-is : (P : Stmt → Type 0) (f : For) → ((p : _) → P (For' f.line f.start f.condition f.step p (more_of-Stmt f.body end_of-Stmt))) → P (views.For f)
unfolding Rattle.vera_ast.specs.declared.tree.statements.Stmt.TheViews.roll-Stmt denote.Hole.Carrier.roll denote.Hole.Carrier.hidden hidden-the_row-Stmt-1 shape-the_row-Stmt-1
for-is P f h = h _

pub case-is : (P : Stmt → Type 0) (line : ℕ) (value : Expr) (xs : List Arm) → P (Case' line value (arms_shape xs) (arms xs)) → P (views.Case line value xs)
unfolding Rattle.vera_ast.specs.declared.tree.statements.Stmt.TheViews.roll-Stmt denote.Hole.Carrier.roll denote.Hole.Carrier.hidden
case-is P line value xs h = h

pub fork-is : (P : Stmt → Type 0) (f : Fork) → P (Fork' f.line (stmts_shape f.branches) (stmts f.branches) f.join) → P (views.Fork f)
unfolding Rattle.vera_ast.specs.declared.tree.statements.Stmt.TheViews.roll-Stmt denote.Hole.Carrier.roll denote.Hole.Carrier.hidden
fork-is P f h = h

-- the rows of parts

pub no_stmts-is : (P : (m : Count) → Row_of-Stmt m → Type 0) → P _ end_of-Stmt → P _ (stmts [])
unfolding denote.Hole.Carrier.roll denote.Hole.Carrier.hidden stmts
no_stmts-is P h = h

pub stmts-is : (P : (m : Count) → Row_of-Stmt m → Type 0) (x : Stmt) (xs : List Stmt) → P _ (more_of-Stmt x (stmts xs)) → P _ (stmts (x ∷ xs))
unfolding denote.Hole.Carrier.roll denote.Hole.Carrier.hidden stmts
stmts-is P x xs h = h

pub no_arms-is : (P : (m : Count) → Row_of-Arm m → Type 0) → P _ end_of-Arm → P _ (arms [])
unfolding denote.Hole.Carrier.roll denote.Hole.Carrier.hidden arms
no_arms-is P h = h

pub arms-is : (P : (m : Count) → Row_of-Arm m → Type 0) (x : Arm) (xs : List Arm) → P _ (more_of-Arm x.line x.label x.body (arms xs)) → P _ (arms (x ∷ xs))
unfolding denote.Hole.Carrier.roll denote.Hole.Carrier.hidden arms
arms-is P x xs h = h

-- what follows an `else`

pub no_alternative-is : (P : Held-If-when_false → Type 0) → P None' → P (alternative None)
unfolding denote.Hole.Carrier.roll denote.Hole.Carrier.hidden alternative
no_alternative-is P h = h

pub alternative-is : (P : Held-If-when_false → Type 0) (x : Stmt) → ((p : _) → P (Some' p (more_of-Stmt x end_of-Stmt))) → P (alternative (Some x))
unfolding denote.Hole.Carrier.roll denote.Hole.Carrier.hidden alternative hidden-the_row-Stmt-1 shape-the_row-Stmt-1
alternative-is P x h = h _
