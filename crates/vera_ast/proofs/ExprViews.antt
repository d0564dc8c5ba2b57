-- An expression as the code makes it, and as definitions match on it: what holds of the constructor that definitions
-- see, with the parts that the code gave, holds of what the code made. The shapes between the parts say nothing.
use Rattle.std.proofs.Common.{ℕ, List, [], ◌∷◌}
use mathlib.Core.Former.{Count}
use Rattle.vera_ast.specs.declared.tree.expressions.Expr.{Expr, Row_of-Expr, end_of-Expr, more_of-Expr}
use Rattle.vera_ast.specs.declared.tree.expressions.Expr.TheVariants.{Chain', Conditional', Unary', Postfix'}
use Rattle.vera_ast.specs.declared.tree.expressions.Expr.TheViews as views
use Rattle.vera_ast.specs.declared.tree.expressions.Expr.TheBlock.{Parentheses', Concatenation', Replication', Index', Bits', Call', Row_of-Link, end_of-Link, more_of-Link, Row_of-Suffix, end_of-Suffix, more_of-Suffix}
use Rattle.vera_ast.specs.declared.tree.expressions.Expr.TheBlock.{hidden-the_row-Expr-0, shape-the_row-Expr-0, hidden-the_row-Link-1 as links, shape-the_row-Link-1 as links_shape, hidden-the_row-Suffix-2 as suffixes, shape-the_row-Suffix-2 as suffixes_shape, hidden-the_row-Expr-3 as exprs, shape-the_row-Expr-3 as exprs_shape}
use Rattle.vera_ast.specs.declared.tree.expressions.Conditional.{Conditional}
use Rattle.vera_ast.specs.declared.tree.expressions.Link.{Link}
use Rattle.vera_ast.specs.declared.tree.expressions.Postfix.{Postfix}
use Rattle.vera_ast.specs.declared.tree.expressions.PrimaryForm.{PrimaryForm}
use Rattle.vera_ast.specs.declared.tree.expressions.Suffix.{Suffix}
use Rattle.vera_ast.specs.declared.tree.expressions.Unary.{Unary}

pub conditional-is : (P : Expr → Type 0) (c : Conditional) → ((p q r : _) → P (Conditional' c.line p (more_of-Expr c.condition end_of-Expr) q (more_of-Expr c.when_true end_of-Expr) r (more_of-Expr c.when_false end_of-Expr))) → P (views.Conditional c)
unfolding Rattle.vera_ast.specs.declared.tree.expressions.Expr.TheViews.roll-Expr denote.Hole.Carrier.roll denote.Hole.Carrier.hidden hidden-the_row-Expr-0 shape-the_row-Expr-0
conditional-is P c h = h _ _ _

pub chain-is : (P : Expr → Type 0) (line : ℕ) (first : Expr) (ls : List Link) → ((p : _) → P (Chain' line p (more_of-Expr first end_of-Expr) (links_shape ls) (links ls))) → P (views.Chain line first ls)
unfolding Rattle.vera_ast.specs.declared.tree.expressions.Expr.TheViews.roll-Expr denote.Hole.Carrier.roll denote.Hole.Carrier.hidden hidden-the_row-Expr-0 shape-the_row-Expr-0
chain-is P line first ls h = h _

pub unary-is : (P : Expr → Type 0) (u : Unary) → ((p : _) → P (Unary' u.line u.operator p (more_of-Expr u.operand end_of-Expr))) → P (views.Unary u)
unfolding Rattle.vera_ast.specs.declared.tree.expressions.Expr.TheViews.roll-Expr denote.Hole.Carrier.roll denote.Hole.Carrier.hidden hidden-the_row-Expr-0 shape-the_row-Expr-0
unary-is P u h = h _

pub postfix-is : (P : Expr → Type 0) (x : Postfix) → P (Postfix' x.line x.primary.line x.primary.form (suffixes_shape x.suffixes) (suffixes x.suffixes)) → P (views.Postfix x)
unfolding Rattle.vera_ast.specs.declared.tree.expressions.Expr.TheViews.roll-Expr denote.Hole.Carrier.roll denote.Hole.Carrier.hidden
postfix-is P x h = h

pub parentheses-is : (P : PrimaryForm → Type 0) (x : Expr) → ((p : _) → P (Parentheses' p (more_of-Expr x end_of-Expr))) → P (views.Parentheses x)
unfolding Rattle.vera_ast.specs.declared.tree.expressions.Expr.TheViews.roll-Expr denote.Hole.Carrier.roll denote.Hole.Carrier.hidden hidden-the_row-Expr-0 shape-the_row-Expr-0
parentheses-is P x h = h _

pub concatenation-is : (P : PrimaryForm → Type 0) (xs : List Expr) → P (Concatenation' (exprs_shape xs) (exprs xs)) → P (views.Concatenation xs)
unfolding Rattle.vera_ast.specs.declared.tree.expressions.Expr.TheViews.roll-Expr denote.Hole.Carrier.roll denote.Hole.Carrier.hidden
concatenation-is P xs h = h

pub replication-is : (P : PrimaryForm → Type 0) (n : Expr) (xs : List Expr) → ((p : _) → P (Replication' p (more_of-Expr n end_of-Expr) (exprs_shape xs) (exprs xs))) → P (views.Replication n xs)
unfolding Rattle.vera_ast.specs.declared.tree.expressions.Expr.TheViews.roll-Expr denote.Hole.Carrier.roll denote.Hole.Carrier.hidden hidden-the_row-Expr-0 shape-the_row-Expr-0
replication-is P n xs h = h _

pub index-is : (P : Suffix → Type 0) (x : Expr) → ((p : _) → P (Index' p (more_of-Expr x end_of-Expr))) → P (views.Index x)
unfolding Rattle.vera_ast.specs.declared.tree.expressions.Expr.TheViews.roll-Expr denote.Hole.Carrier.roll denote.Hole.Carrier.hidden hidden-the_row-Expr-0 shape-the_row-Expr-0
index-is P x h = h _

pub bits-is : (P : Suffix → Type 0) (x y : Expr) → ((p q : _) → P (Bits' p (more_of-Expr x end_of-Expr) q (more_of-Expr y end_of-Expr))) → P (views.Bits x y)
unfolding Rattle.vera_ast.specs.declared.tree.expressions.Expr.TheViews.roll-Expr denote.Hole.Carrier.roll denote.Hole.Carrier.hidden hidden-the_row-Expr-0 shape-the_row-Expr-0
bits-is P x y h = h _ _

pub call-is : (P : Suffix → Type 0) (xs : List Expr) → P (Call' (exprs_shape xs) (exprs xs)) → P (views.Call xs)
unfolding Rattle.vera_ast.specs.declared.tree.expressions.Expr.TheViews.roll-Expr denote.Hole.Carrier.roll denote.Hole.Carrier.hidden
call-is P xs h = h

-- the rows of parts

pub no_links-is : (P : (m : Count) → Row_of-Link m → Type 0) → P _ end_of-Link → P _ (links [])
unfolding denote.Hole.Carrier.roll denote.Hole.Carrier.hidden links
no_links-is P h = h

pub links-is : (P : (m : Count) → Row_of-Link m → Type 0) (l : Link) (ls : List Link) → P _ (more_of-Link l.operator l.operand (links ls)) → P _ (links (l ∷ ls))
unfolding denote.Hole.Carrier.roll denote.Hole.Carrier.hidden links
links-is P l ls h = h

pub no_suffixes-is : (P : (m : Count) → Row_of-Suffix m → Type 0) → P _ end_of-Suffix → P _ (suffixes [])
unfolding denote.Hole.Carrier.roll denote.Hole.Carrier.hidden suffixes
no_suffixes-is P h = h

pub suffixes-is : (P : (m : Count) → Row_of-Suffix m → Type 0) (x : Suffix) (xs : List Suffix) → P _ (more_of-Suffix x (suffixes xs)) → P _ (suffixes (x ∷ xs))
unfolding denote.Hole.Carrier.roll denote.Hole.Carrier.hidden suffixes
suffixes-is P x xs h = h

pub no_exprs-is : (P : (m : Count) → Row_of-Expr m → Type 0) → P _ end_of-Expr → P _ (exprs [])
unfolding denote.Hole.Carrier.roll denote.Hole.Carrier.hidden exprs
no_exprs-is P h = h

pub exprs-is : (P : (m : Count) → Row_of-Expr m → Type 0) (x : Expr) (xs : List Expr) → P _ (more_of-Expr x (exprs xs)) → P _ (exprs (x ∷ xs))
unfolding denote.Hole.Carrier.roll denote.Hole.Carrier.hidden exprs
exprs-is P x xs h = h
