-- An expression of a typed tree as the code makes it, and as definitions match on it: as for the syntax tree.
use Rattle.std.proofs.Common.{ℕ, List, [], ◌∷◌, Option, Some, None}
use mathlib.Core.Former.{Count}
use Rattle.vera_ast.specs.declared.typed.expr.TypedExpr.{TypedExpr, Row_of-TypedExpr, end_of-TypedExpr, more_of-TypedExpr}
use Rattle.vera_ast.specs.declared.typed.expr.TypedExpr.TheVariants.{Field', Element', Bit', Bits', Chain', Unary', Conditional', Concatenation', Replication', Call', New', BuiltIn'}
use Rattle.vera_ast.specs.declared.typed.expr.TypedExpr.TheVariants as views
use Rattle.vera_ast.specs.declared.typed.expr.TypedExpr.TheBlock.{Row_of-TypedLink, end_of-TypedLink, more_of-TypedLink, Row_of-TypedArgument, end_of-TypedArgument, more_of-TypedArgument, end_of-TypedPlace, more_of-TypedPlace, Held-TypedExpr-BuiltIn-2, None', Some'}
use Rattle.vera_ast.specs.declared.typed.expr.TypedExpr.TheBlock.{hidden-the_row-TypedExpr-0, shape-the_row-TypedExpr-0, hidden-the_row-TypedLink-1 as links, shape-the_row-TypedLink-1 as links_shape, hidden-the_row-TypedExpr-2 as exprs, shape-the_row-TypedExpr-2 as exprs_shape, hidden-the_row-TypedArgument-3 as arguments, shape-the_row-TypedArgument-3 as arguments_shape, hidden-the_row-TypedPlace-4, shape-the_row-TypedPlace-4, back-TypedExpr-BuiltIn-2 as target}
use Rattle.vera_ast.specs.declared.tree.expressions.UnaryOperator.{UnaryOperator}
use Rattle.vera_ast.specs.declared.typed.builtin.BuiltInFunction.{BuiltInFunction}
use Rattle.vera_ast.specs.declared.typed.expr.TypedConditional.{TypedConditional}
use Rattle.vera_ast.specs.declared.typed.expr.TypedLink.{TypedLink}
use Rattle.vera_ast.specs.declared.typed.invocation.TypedArgument.{TypedArgument}
use Rattle.vera_ast.specs.declared.typed.invocation.TypedCall.{TypedCall}
use Rattle.vera_ast.specs.declared.typed.invocation.TypedNew.{TypedNew}
use Rattle.vera_ast.specs.declared.typed.place.BitRange.{BitRange}
use Rattle.vera_ast.specs.declared.typed.place.TypedElement.{TypedElement}
use Rattle.vera_ast.specs.declared.typed.place.TypedField.{TypedField}
use Rattle.vera_ast.specs.declared.typed.place.TypedPlace.{TypedPlace}
use Rattle.vera_ast.specs.declared.typed.types.ValueType.{ValueType}

pub field-is : (P : TypedExpr → Type 0) (f : TypedField) → ((p : _) → P (Field' p (more_of-TypedExpr f.object end_of-TypedExpr) f.number f.of)) → P (views.Field f)
unfolding Rattle.vera_ast.specs.declared.typed.expr.TypedExpr.TheViews.roll-TypedExpr denote.Hole.Carrier.roll denote.Hole.Carrier.hidden hidden-the_row-TypedExpr-0 shape-the_row-TypedExpr-0
field-is P f h = h _

pub element-is : (P : TypedExpr → Type 0) (e : TypedElement) → ((p : _) → P (Element' e.array e.length p (more_of-TypedExpr e.index end_of-TypedExpr) e.of)) → P (views.Element e)
unfolding Rattle.vera_ast.specs.declared.typed.expr.TypedExpr.TheViews.roll-TypedExpr denote.Hole.Carrier.roll denote.Hole.Carrier.hidden hidden-the_row-TypedExpr-0 shape-the_row-TypedExpr-0
element-is P e h = h _

pub bit-is : (P : TypedExpr → Type 0) (vector index : TypedExpr) → ((p q : _) → P (Bit' p (more_of-TypedExpr vector end_of-TypedExpr) q (more_of-TypedExpr index end_of-TypedExpr))) → P (views.Bit vector index)
unfolding Rattle.vera_ast.specs.declared.typed.expr.TypedExpr.TheViews.roll-TypedExpr denote.Hole.Carrier.roll denote.Hole.Carrier.hidden hidden-the_row-TypedExpr-0 shape-the_row-TypedExpr-0
bit-is P vector index h = h _ _

pub bits-is : (P : TypedExpr → Type 0) (vector : TypedExpr) (range : BitRange) → ((p : _) → P (Bits' p (more_of-TypedExpr vector end_of-TypedExpr) range)) → P (views.Bits vector range)
unfolding Rattle.vera_ast.specs.declared.typed.expr.TypedExpr.TheViews.roll-TypedExpr denote.Hole.Carrier.roll denote.Hole.Carrier.hidden hidden-the_row-TypedExpr-0 shape-the_row-TypedExpr-0
bits-is P vector range h = h _

pub chain-is : (P : TypedExpr → Type 0) (first : TypedExpr) (ls : List TypedLink) → ((p : _) → P (Chain' p (more_of-TypedExpr first end_of-TypedExpr) (links_shape ls) (links ls))) → P (views.Chain first ls)
unfolding Rattle.vera_ast.specs.declared.typed.expr.TypedExpr.TheViews.roll-TypedExpr denote.Hole.Carrier.roll denote.Hole.Carrier.hidden hidden-the_row-TypedExpr-0 shape-the_row-TypedExpr-0
chain-is P first ls h = h _

pub unary-is : (P : TypedExpr → Type 0) (operator : UnaryOperator) (operand : TypedExpr) → ((p : _) → P (Unary' operator p (more_of-TypedExpr operand end_of-TypedExpr))) → P (views.Unary operator operand)
unfolding Rattle.vera_ast.specs.declared.typed.expr.TypedExpr.TheViews.roll-TypedExpr denote.Hole.Carrier.roll denote.Hole.Carrier.hidden hidden-the_row-TypedExpr-0 shape-the_row-TypedExpr-0
unary-is P operator operand h = h _

pub conditional-is : (P : TypedExpr → Type 0) (c : TypedConditional) → ((p q r : _) → P (Conditional' p (more_of-TypedExpr c.condition end_of-TypedExpr) q (more_of-TypedExpr c.when_true end_of-TypedExpr) r (more_of-TypedExpr c.when_false end_of-TypedExpr) c.of)) → P (views.Conditional c)
unfolding Rattle.vera_ast.specs.declared.typed.expr.TypedExpr.TheViews.roll-TypedExpr denote.Hole.Carrier.roll denote.Hole.Carrier.hidden hidden-the_row-TypedExpr-0 shape-the_row-TypedExpr-0
conditional-is P c h = h _ _ _

pub concatenation-is : (P : TypedExpr → Type 0) (parts : List TypedExpr) (ty : ValueType) → P (Concatenation' (exprs_shape parts) (exprs parts) ty) → P (views.Concatenation parts ty)
unfolding Rattle.vera_ast.specs.declared.typed.expr.TypedExpr.TheViews.roll-TypedExpr denote.Hole.Carrier.roll denote.Hole.Carrier.hidden
concatenation-is P parts ty h = h

pub replication-is : (P : TypedExpr → Type 0) (count : ℕ) (parts : List TypedExpr) (ty : ValueType) → P (Replication' count (exprs_shape parts) (exprs parts) ty) → P (views.Replication count parts ty)
unfolding Rattle.vera_ast.specs.declared.typed.expr.TypedExpr.TheViews.roll-TypedExpr denote.Hole.Carrier.roll denote.Hole.Carrier.hidden
replication-is P count parts ty h = h

pub call-is : (P : TypedExpr → Type 0) (c : TypedCall) (ty : ValueType) → P (Call' c.callee (arguments_shape c.arguments) (arguments c.arguments) ty) → P (views.Call c ty)
unfolding Rattle.vera_ast.specs.declared.typed.expr.TypedExpr.TheViews.roll-TypedExpr denote.Hole.Carrier.roll denote.Hole.Carrier.hidden
call-is P c ty h = h

pub new-is : (P : TypedExpr → Type 0) (n : TypedNew) → P (New' n.class n.constructor (arguments_shape n.arguments) (arguments n.arguments)) → P (views.New n)
unfolding Rattle.vera_ast.specs.declared.typed.expr.TypedExpr.TheViews.roll-TypedExpr denote.Hole.Carrier.roll denote.Hole.Carrier.hidden
new-is P n h = h

pub builtin-is : (P : TypedExpr → Type 0) (function : BuiltInFunction) (operands : List TypedExpr) (place : Option TypedPlace) → P (BuiltIn' function (exprs_shape operands) (exprs operands) (target place)) → P (views.BuiltIn function operands place)
unfolding Rattle.vera_ast.specs.declared.typed.expr.TypedExpr.TheViews.roll-TypedExpr denote.Hole.Carrier.roll denote.Hole.Carrier.hidden
builtin-is P function operands place h = h

-- the rows of parts

pub no_links-is : (P : (m : Count) → Row_of-TypedLink m → Type 0) → P _ end_of-TypedLink → P _ (links [])
unfolding denote.Hole.Carrier.roll denote.Hole.Carrier.hidden links
no_links-is P h = h

pub links-is : (P : (m : Count) → Row_of-TypedLink m → Type 0) (l : TypedLink) (ls : List TypedLink) → P _ (more_of-TypedLink l.operator l.works_in l.operand (links ls)) → P _ (links (l ∷ ls))
unfolding denote.Hole.Carrier.roll denote.Hole.Carrier.hidden links
links-is P l ls h = h

pub no_exprs-is : (P : (m : Count) → Row_of-TypedExpr m → Type 0) → P _ end_of-TypedExpr → P _ (exprs [])
unfolding denote.Hole.Carrier.roll denote.Hole.Carrier.hidden exprs
no_exprs-is P h = h

pub exprs-is : (P : (m : Count) → Row_of-TypedExpr m → Type 0) (x : TypedExpr) (xs : List TypedExpr) → P _ (more_of-TypedExpr x (exprs xs)) → P _ (exprs (x ∷ xs))
unfolding denote.Hole.Carrier.roll denote.Hole.Carrier.hidden exprs
exprs-is P x xs h = h

pub no_arguments-is : (P : (m : Count) → Row_of-TypedArgument m → Type 0) → P _ end_of-TypedArgument → P _ (arguments [])
unfolding denote.Hole.Carrier.roll denote.Hole.Carrier.hidden arguments
no_arguments-is P h = h

pub arguments-is : (P : (m : Count) → Row_of-TypedArgument m → Type 0) (x : TypedArgument) (xs : List TypedArgument) → P _ (more_of-TypedArgument x (arguments xs)) → P _ (arguments (x ∷ xs))
unfolding denote.Hole.Carrier.roll denote.Hole.Carrier.hidden arguments
arguments-is P x xs h = h

-- the place that a built-in call assigns

pub no_target-is : (P : Held-TypedExpr-BuiltIn-2 → Type 0) → P None' → P (target None)
unfolding denote.Hole.Carrier.roll denote.Hole.Carrier.hidden
no_target-is P h = h

pub target-is : (P : Held-TypedExpr-BuiltIn-2 → Type 0) (x : TypedPlace) → ((p : _) → P (Some' p (more_of-TypedPlace x end_of-TypedPlace))) → P (target (Some x))
unfolding denote.Hole.Carrier.roll denote.Hole.Carrier.hidden hidden-the_row-TypedPlace-4 shape-the_row-TypedPlace-4
target-is P x h = h _
