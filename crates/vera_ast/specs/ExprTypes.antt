-- The types of expressions and of places.
use Rattle.std.specs.Prelude.{List, [], ◌∷◌}
use Rattle.vera_ast.specs.declared.typed.expr.TypedExpr.{TypedExpr, end_of-TypedExpr, more_of-TypedExpr, Row_of-TypedLink, end_of-TypedLink, more_of-TypedLink}
use Rattle.vera_ast.specs.declared.typed.expr.TypedExpr.TheVariants.{Number, Str, EnumName, Null, This, Variable, Field', Element', Bit', Bits', Sample, Chain', Unary', Conditional', Concatenation', Replication', Call', New', NewGroup, BuiltIn'}
use Rattle.vera_ast.specs.declared.typed.expr.TypedLink.{TypedLink}
use Rattle.vera_ast.specs.declared.typed.place.TypedPlace.{TypedPlace}
use Rattle.vera_ast.specs.declared.typed.place.TypedPlace.TheVariants as places
use Rattle.vera_ast.specs.declared.typed.types.ValueType.{ValueType}
use Rattle.vera_ast.specs.declared.typed.types.ValueType.TheVariants as types
use Rattle.vera_ast.specs.declared.typed.types.VectorType.TheVariants as vectors
use Rattle.vera_ast.specs.Types.{bit_type, chain_type, unary_type}

abbrev mutual
  -- the type of an expression
  pub type_of : TypedExpr → ValueType
  type_of (Number bits ty) = types.Vector ty
  type_of (Str text) = types.Str
  type_of (EnumName name) = types.Enumeration name.enumeration
  type_of Null = types.Null
  type_of (This class) = types.Class class
  type_of (Variable v) = v.of
  type_of (Field' p object number ty) = ty
  type_of (Element' array length p index ty) = ty
  type_of (Bit' p vector q index) = bit_type
  type_of (Bits' p vector range) = types.Vector (vectors.Bits range.width)
  type_of (Sample s) = types.Vector (vectors.Bits s.width)
  type_of (Chain' p (more_of-TypedExpr first end_of-TypedExpr) q links) = type_after links (type_of first)
  type_of (Unary' operator p (more_of-TypedExpr operand end_of-TypedExpr)) = unary_type operator (type_of operand)
  type_of (Conditional' p condition q when_true r when_false ty) = types.Vector ty
  type_of (Concatenation' p parts ty) = ty
  type_of (Replication' count p parts ty) = ty
  type_of (Call' callee p arguments ty) = ty
  type_of (New' class constructor p arguments) = types.Class class
  type_of (NewGroup group) = types.Group group
  type_of (BuiltIn' function p operands target) = types.Vector vectors.Integer

  -- the type of a chain behind a value of a type
  pub type_after : {m : _} → Row_of-TypedLink m → ValueType → ValueType
  type_after end_of-TypedLink ty = ty
  type_after (more_of-TypedLink operator works_in operand links) ty = type_after links (chain_type operator works_in)

-- the same for links in a list
abbrev pub type_behind : List TypedLink → ValueType → ValueType
type_behind [] ty = ty
type_behind (l ∷ links) ty = type_behind links (chain_type l.operator l.works_in)

-- the type of a place
abbrev pub place_type : TypedPlace → ValueType
place_type (places.Variable v) = v.of
place_type (places.Field' p object number ty) = ty
place_type (places.Element' array length p index ty) = ty
place_type (places.Bit' p vector q index) = bit_type
place_type (places.Bits' p vector range) = types.Vector (vectors.Bits range.width)
