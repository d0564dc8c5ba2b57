-- Places, arrays and callees of a typed tree as the code makes them, and as definitions match on them.
use Rattle.std.proofs.Common.{ℕ}
use Rattle.vera_ast.specs.declared.typed.expr.TypedExpr.{TypedExpr, end_of-TypedExpr, more_of-TypedExpr}
use Rattle.vera_ast.specs.declared.typed.expr.TypedExpr.TheBlock.{end_of-TypedPlace, more_of-TypedPlace}
use Rattle.vera_ast.specs.declared.typed.expr.TypedExpr.TheBlock.{hidden-the_row-TypedExpr-0, shape-the_row-TypedExpr-0, hidden-the_row-TypedPlace-4, shape-the_row-TypedPlace-4}
use Rattle.vera_ast.specs.declared.typed.invocation.TypedCallee.{TypedCallee}
use Rattle.vera_ast.specs.declared.typed.invocation.TypedCallee.TheVariants as callees
use Rattle.vera_ast.specs.declared.typed.names.MethodName.{MethodName}
use Rattle.vera_ast.specs.declared.typed.place.BitRange.{BitRange}
use Rattle.vera_ast.specs.declared.typed.place.TypedArray.{TypedArray}
use Rattle.vera_ast.specs.declared.typed.place.TypedArray.TheVariants as arrays
use Rattle.vera_ast.specs.declared.typed.place.TypedElement.{TypedElement}
use Rattle.vera_ast.specs.declared.typed.place.TypedField.{TypedField}
use Rattle.vera_ast.specs.declared.typed.place.TypedPlace.{TypedPlace}
use Rattle.vera_ast.specs.declared.typed.place.TypedPlace.TheVariants as places

pub place_field-is : (P : TypedPlace → Type 0) (f : TypedField) → ((p : _) → P (places.Field' p (more_of-TypedExpr f.object end_of-TypedExpr) f.number f.of)) → P (places.Field f)
unfolding Rattle.vera_ast.specs.declared.typed.expr.TypedExpr.TheViews.roll-TypedExpr denote.Hole.Carrier.roll denote.Hole.Carrier.hidden hidden-the_row-TypedExpr-0 shape-the_row-TypedExpr-0
place_field-is P f h = h _

pub place_element-is : (P : TypedPlace → Type 0) (e : TypedElement) → ((p : _) → P (places.Element' e.array e.length p (more_of-TypedExpr e.index end_of-TypedExpr) e.of)) → P (places.Element e)
unfolding Rattle.vera_ast.specs.declared.typed.expr.TypedExpr.TheViews.roll-TypedExpr denote.Hole.Carrier.roll denote.Hole.Carrier.hidden hidden-the_row-TypedExpr-0 shape-the_row-TypedExpr-0
place_element-is P e h = h _

pub place_bit-is : (P : TypedPlace → Type 0) (vector : TypedPlace) (index : TypedExpr) → ((p q : _) → P (places.Bit' p (more_of-TypedPlace vector end_of-TypedPlace) q (more_of-TypedExpr index end_of-TypedExpr))) → P (places.Bit vector index)
unfolding Rattle.vera_ast.specs.declared.typed.expr.TypedExpr.TheViews.roll-TypedExpr denote.Hole.Carrier.roll denote.Hole.Carrier.hidden hidden-the_row-TypedExpr-0 shape-the_row-TypedExpr-0 hidden-the_row-TypedPlace-4 shape-the_row-TypedPlace-4
place_bit-is P vector index h = h _ _

pub place_bits-is : (P : TypedPlace → Type 0) (vector : TypedPlace) (range : BitRange) → ((p : _) → P (places.Bits' p (more_of-TypedPlace vector end_of-TypedPlace) range)) → P (places.Bits vector range)
unfolding Rattle.vera_ast.specs.declared.typed.expr.TypedExpr.TheViews.roll-TypedExpr denote.Hole.Carrier.roll denote.Hole.Carrier.hidden hidden-the_row-TypedPlace-4 shape-the_row-TypedPlace-4
place_bits-is P vector range h = h _

-- an array that is a field

pub array_field-is : (P : TypedArray → Type 0) (object : TypedExpr) (number : ℕ) → ((p : _) → P (arrays.Field' p (more_of-TypedExpr object end_of-TypedExpr) number)) → P (arrays.Field object number)
unfolding Rattle.vera_ast.specs.declared.typed.expr.TypedExpr.TheViews.roll-TypedExpr denote.Hole.Carrier.roll denote.Hole.Carrier.hidden hidden-the_row-TypedExpr-0 shape-the_row-TypedExpr-0
array_field-is P object number h = h _

-- methods

pub method-is : (P : TypedCallee → Type 0) (object : TypedExpr) (name : MethodName) → ((p : _) → P (callees.Method' p (more_of-TypedExpr object end_of-TypedExpr) name)) → P (callees.Method object name)
unfolding Rattle.vera_ast.specs.declared.typed.expr.TypedExpr.TheViews.roll-TypedExpr denote.Hole.Carrier.roll denote.Hole.Carrier.hidden hidden-the_row-TypedExpr-0 shape-the_row-TypedExpr-0
method-is P object name h = h _

pub virtual-is : (P : TypedCallee → Type 0) (object : TypedExpr) (slot : ℕ) → ((p : _) → P (callees.Virtual' p (more_of-TypedExpr object end_of-TypedExpr) slot)) → P (callees.Virtual object slot)
unfolding Rattle.vera_ast.specs.declared.typed.expr.TypedExpr.TheViews.roll-TypedExpr denote.Hole.Carrier.roll denote.Hole.Carrier.hidden hidden-the_row-TypedExpr-0 shape-the_row-TypedExpr-0
virtual-is P object slot h = h _
