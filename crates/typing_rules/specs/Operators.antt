-- The types in which operators work. What they give is told by `chain_type` and `unary_type`.
use Rattle.std.specs.Prelude.{ℕ, Bool, true, false, if◌then◌else◌, List, Option, Some, None}
use Rattle.vera_ast.specs.Types.{common, vector_of}
use Rattle.vera_ast.specs.declared.tree.expressions.ChainOperator.{ChainOperator}
use Rattle.vera_ast.specs.declared.tree.expressions.ChainOperator.TheVariants as o
use Rattle.vera_ast.specs.declared.typed.types.VectorType.{VectorType}
use Rattle.vera_ast.specs.declared.typed.types.ValueType.{ValueType}
use Rattle.vera_ast.specs.declared.typed.types.ValueType.TheVariants.{Vector, Str, Null, Class}
use Rattle.typing_rules.specs.Types.{are_related}

abbrev pub is_shift : ChainOperator → Bool
is_shift o.ShiftLeft = true
is_shift o.ShiftRight = true
is_shift _ = false

-- between vectors: the left one's type for a shift, else the wider one's width, an integer where both are
abbrev pub vectors_work_in : ChainOperator → VectorType → VectorType → ValueType
vectors_work_in operator v w = Vector (if is_shift operator then v else common v w)

abbrev pub is_equality : ChainOperator → Bool
is_equality o.Equal = true
is_equality o.NotEqual = true
is_equality _ = false

-- strings are compared with strings, and objects with related ones: in the type of the first that isn't null
abbrev pub compared : List (Option ℕ) → ValueType → ValueType → Option ValueType
compared parents Str Str = Some Str
compared parents Null t = if are_related parents Null t then Some t else None
compared parents (Class n) t = if are_related parents (Class n) t then Some (Class n) else None
compared parents _ _ = None

-- vectors have all operators; strings and objects have `==` and `!=`
abbrev pub works_between : List (Option ℕ) → ValueType → ChainOperator → ValueType → Option VectorType → Option VectorType → Option ValueType
works_between parents left operator right (Some v) (Some w) = Some (vectors_work_in operator v w)
works_between parents left operator right _ _ = if is_equality operator then compared parents left right else None

-- the type in which an operator works between these two; None where it has no such operands
unfoldable pub works_in : List (Option ℕ) → ValueType → ChainOperator → ValueType → Option ValueType
works_in parents left operator right = works_between parents left operator right (vector_of left) (vector_of right)
