-- What the operators between two operands give.
use Rattle.std.specs.Prelude.{ℕ, List, Bool, true, false, Option, Some, None}
use Rattle.four_state.specs.declared.bit.Bit.{Bit}
use Rattle.four_state.specs.declared.bit.Bit3.{Bit3}
use Rattle.four_state.specs.declared.bit.Bit3.TheVariants as logical
use Rattle.four_state.specs.Bits.{all_x, extended}
use Rattle.four_state.specs.Logic.{logic_of}
use Rattle.four_state.specs.Arithmetic.{sum_of, difference_of}
use Rattle.four_state.specs.Comparisons.{less_of, less_equal_of, greater_of, greater_equal_of, equal_of, not_equal_of}
use Rattle.vera_ast.specs.declared.tree.expressions.ChainOperator.{ChainOperator}
use Rattle.vera_ast.specs.declared.tree.expressions.ChainOperator.TheVariants.{Add, Subtract, Less, LessEqual, Greater, GreaterEqual, Equal, NotEqual}
use Rattle.vera_ast.specs.declared.typed.types.ValueType.{ValueType}
use Rattle.vera_ast.specs.declared.typed.types.VectorType.{VectorType}
use Rattle.vera_ast.specs.Types.{width_of, is_signed, one_bit, vector_of, chain_type}

-- The vector type as which values of a type are read. Values that are no vectors aren't built: they are read as one bit.
abbrev pub or_one_bit : Option VectorType → VectorType
or_one_bit None = one_bit
or_one_bit (Some ty) = ty

abbrev pub read_as : ValueType → VectorType
read_as ty = or_one_bit (vector_of ty)

-- so many bits have values of a type
abbrev pub width_at : ValueType → ℕ
width_at ty = width_of (read_as ty)

-- whether they are read in two's complement
abbrev pub is_signed_at : ValueType → Bool
is_signed_at ty = is_signed (read_as ty)

-- the value without a known bit
abbrev pub unknown : ValueType → List Bit
unknown ty = all_x (width_at ty)

-- a value of the first type, cut or extended to the width of the second
abbrev pub fitted : ValueType → ValueType → List Bit → List Bit
fitted from to bits = extended (width_at to) (is_signed_at from) bits

-- What an operator that works in a type gives for two operands of its width. The others aren't built: they give all x.
abbrev pub applied : ChainOperator → ValueType → List Bit → List Bit → List Bit
applied Add ty a b = sum_of a b
applied Subtract ty a b = difference_of a b
applied Less ty a b = less_of (is_signed_at ty) a b
applied LessEqual ty a b = less_equal_of (is_signed_at ty) a b
applied Greater ty a b = greater_of (is_signed_at ty) a b
applied GreaterEqual ty a b = greater_equal_of (is_signed_at ty) a b
applied Equal ty a b = equal_of (is_signed_at ty) a b
applied NotEqual ty a b = not_equal_of (is_signed_at ty) a b
applied operator ty a b = unknown (chain_type operator ty)

-- whether a logical value is 1
abbrev pub is_one : Bit3 → Bool
is_one logical.Zero = false
is_one logical.One = true
is_one logical.X = false

-- whether a condition holds: its logical value is 1
abbrev pub is_true : List Bit → Bool
is_true bits = is_one (logic_of bits)
