-- A statement of a typed tree as the code makes it, and as definitions match on it: as for the syntax tree.
use Rattle.std.proofs.Common.{ℕ, List, [], ◌∷◌, Some, None}
use mathlib.Core.Former.{Count}
use Rattle.vera_ast.specs.declared.typed.expr.TypedExpr.{TypedExpr}
use Rattle.vera_ast.specs.declared.typed.stmt.TypedStmt.{TypedStmt, Row_of-TypedStmt, end_of-TypedStmt, more_of-TypedStmt}
use Rattle.vera_ast.specs.declared.typed.stmt.TypedStmt.TheVariants.{Block', If', While', Repeat', For', Case', Fork'}
use Rattle.vera_ast.specs.declared.typed.stmt.TypedStmt.TheVariants as views
use Rattle.vera_ast.specs.declared.typed.stmt.TypedStmt.TheBlock.{Row_of-TypedArm, end_of-TypedArm, more_of-TypedArm, Held-TypedIf-when_false, None', Some'}
use Rattle.vera_ast.specs.declared.typed.stmt.TypedStmt.TheBlock.{hidden-the_row-TypedStmt-1, shape-the_row-TypedStmt-1, hidden-the_row-TypedStmt-0 as stmts, shape-the_row-TypedStmt-0 as stmts_shape, hidden-the_row-TypedArm-2 as arms, shape-the_row-TypedArm-2 as arms_shape, back-TypedIf-when_false as alternative}
use Rattle.vera_ast.specs.declared.typed.stmt.TypedArm.{TypedArm}
use Rattle.vera_ast.specs.declared.typed.stmt.TypedBlock.{TypedBlock}
use Rattle.vera_ast.specs.declared.typed.stmt.TypedFor.{TypedFor}
use Rattle.vera_ast.specs.declared.typed.stmt.TypedFork.{TypedFork}
use Rattle.vera_ast.specs.declared.typed.stmt.TypedIf.{TypedIf}
use Rattle.vera_ast.specs.declared.typed.stmt.TypedRepeat.{TypedRepeat}
use Rattle.vera_ast.specs.declared.typed.stmt.TypedWhile.{TypedWhile}

pub block-is : (P : TypedStmt → Type 0) (b : TypedBlock) → P (Block' b.line b.decls (stmts_shape b.stmts) (stmts b.stmts)) → P (views.Block b)
unfolding Rattle.vera_ast.specs.declared.typed.stmt.TypedStmt.TheViews.roll-TypedStmt denote.Hole.Carrier.roll denote.Hole.Carrier.hidden
block-is P b h = h

pub if-is : (P : TypedStmt → Type 0) (i : TypedIf) → ((p : _) → P (If' i.line i.condition p (more_of-TypedStmt i.when_true end_of-TypedStmt) (alternative i.when_false))) → P (views.If i)
unfolding Rattle.vera_ast.specs.declared.typed.stmt.TypedStmt.TheViews.roll-TypedStmt denote.Hole.Carrier.roll denote.Hole.Carrier.hidden hidden-the_row-TypedStmt-1 shape-the_row-TypedStmt-1
if-is P i h = h _

pub while-is : (P : TypedStmt → Type 0) (w : TypedWhile) → ((p : _) → P (While' w.line w.condition p (more_of-TypedStmt w.body end_of-TypedStmt))) → P (views.While w)
unfolding Rattle.vera_ast.specs.declared.typed.stmt.TypedStmt.TheViews.roll-TypedStmt denote.Hole.Carrier.roll denote.Hole.Carrier.hidden hidden-the_row-TypedStmt-1 shape-the_row-TypedStmt-1
while-is P w h = h _

pub repeat-is : (P : TypedStmt → Type 0) (r : TypedRepeat) → ((p : _) → P (Repeat' r.line r.count p (more_of-TypedStmt r.body end_of-TypedStmt))) → P (views.Repeat r)
unfolding Rattle.vera_ast.specs.declared.typed.stmt.TypedStmt.TheViews.roll-TypedStmt denote.Hole.Carrier.roll denote.Hole.Carrier.hidden hidden-the_row-TypedStmt-1 shape-the_row-TypedStmt-1
repeat-is P r h = h _

pub for-is : (P : TypedStmt → Type 0) (f : TypedFor) → ((p q r : _) → P (For' f.line p (more_of-TypedStmt f.start end_of-TypedStmt) f.condition q (more_of-TypedStmt f.step end_of-TypedStmt) r (more_of-TypedStmt f.body end_of-TypedStmt))) → P (views.For f)
unfolding Rattle.vera_ast.specs.declared.typed.stmt.TypedStmt.TheViews.roll-TypedStmt denote.Hole.Carrier.roll denote.Hole.Carrier.hidden hidden-the_row-TypedStmt-1 shape-the_row-TypedStmt-1
for-is P f h = h _ _ _

pub case-is : (P : TypedStmt → Type 0) (line : ℕ) (value : TypedExpr) (xs : List TypedArm) → P (Case' line value (arms_shape xs) (arms xs)) → P (views.Case line value xs)
unfolding Rattle.vera_ast.specs.declared.typed.stmt.TypedStmt.TheViews.roll-TypedStmt denote.Hole.Carrier.roll denote.Hole.Carrier.hidden
case-is P line value xs h = h

pub fork-is : (P : TypedStmt → Type 0) (f : TypedFork) → P (Fork' f.line (stmts_shape f.branches) (stmts f.branches) f.join) → P (views.Fork f)
unfolding Rattle.vera_ast.specs.declared.typed.stmt.TypedStmt.TheViews.roll-TypedStmt denote.Hole.Carrier.roll denote.Hole.Carrier.hidden
fork-is P f h = h

-- the rows of parts

pub no_stmts-is : (P : (m : Count) → Row_of-TypedStmt m → Type 0) → P _ end_of-TypedStmt → P _ (stmts [])
unfolding denote.Hole.Carrier.roll denote.Hole.Carrier.hidden stmts
no_stmts-is P h = h

pub stmts-is : (P : (m : Count) → Row_of-TypedStmt m → Type 0) (x : TypedStmt) (xs : List TypedStmt) → P _ (more_of-TypedStmt x (stmts xs)) → P _ (stmts (x ∷ xs))
unfolding denote.Hole.Carrier.roll denote.Hole.Carrier.hidden stmts
stmts-is P x xs h = h

pub no_arms-is : (P : (m : Count) → Row_of-TypedArm m → Type 0) → P _ end_of-TypedArm → P _ (arms [])
unfolding denote.Hole.Carrier.roll denote.Hole.Carrier.hidden arms
no_arms-is P h = h

pub arms-is : (P : (m : Count) → Row_of-TypedArm m → Type 0) (x : TypedArm) (xs : List TypedArm) → P _ (more_of-TypedArm x.line x.label x.body (arms xs)) → P _ (arms (x ∷ xs))
unfolding denote.Hole.Carrier.roll denote.Hole.Carrier.hidden arms
arms-is P x xs h = h

-- what follows an `else`

pub no_alternative-is : (P : Held-TypedIf-when_false → Type 0) → P None' → P (alternative None)
unfolding denote.Hole.Carrier.roll denote.Hole.Carrier.hidden
no_alternative-is P h = h

pub alternative-is : (P : Held-TypedIf-when_false → Type 0) (x : TypedStmt) → ((p : _) → P (Some' p (more_of-TypedStmt x end_of-TypedStmt))) → P (alternative (Some x))
unfolding denote.Hole.Carrier.roll denote.Hole.Carrier.hidden hidden-the_row-TypedStmt-1 shape-the_row-TypedStmt-1
alternative-is P x h = h _
