-- Types: how wide vectors are, and how they are read; what operators work in.
use Rattle.std.specs.Prelude.{ℕ, nat_le, Bool, true, false, if◌then◌else◌, Option, Some, None}
use Rattle.std.proofs.Common.{lit≤}
use Rattle.vera_ast.specs.declared.typed.types.Width.{Width}
use Rattle.vera_ast.specs.declared.typed.types.VectorType.{VectorType}
use Rattle.vera_ast.specs.declared.typed.types.VectorType.TheVariants.{Integer, Bits}
use Rattle.vera_ast.specs.declared.typed.types.ValueType.{ValueType}
use Rattle.vera_ast.specs.declared.typed.types.ValueType.TheVariants.{Vector, Str, Event, Enumeration, Class, Group, Null}
use Rattle.vera_ast.specs.declared.tree.expressions.ChainOperator.{ChainOperator}
use Rattle.vera_ast.specs.declared.tree.expressions.ChainOperator.TheVariants as chain
use Rattle.vera_ast.specs.declared.tree.expressions.UnaryOperator.{UnaryOperator}
use Rattle.vera_ast.specs.declared.tree.expressions.UnaryOperator.TheVariants as unary

-- the number of bits
abbrev pub width_of : VectorType → ℕ
width_of Integer = 32
width_of (Bits w) = w.bits

-- whether it is read in two's complement
abbrev pub is_signed : VectorType → Bool
is_signed Integer = true
is_signed (Bits w) = false

-- the width of a single bit
abbrev pub one : Width
one = record { bits = 1; not_empty = lit≤ tt; within = lit≤ tt }

-- what a comparison gives
abbrev pub one_bit : VectorType
one_bit = Bits one

-- the width of an integer
abbrev pub of_integer : Width
of_integer = record { bits = 32; not_empty = lit≤ tt; within = lit≤ tt }

abbrev pub wider : Width → Width → Width
wider v w = if nat_le v.bits w.bits then w else v

-- the type in which an operator between these two works: the wider one's width, and an integer where both are
abbrev pub common : VectorType → VectorType → VectorType
common Integer Integer = Integer
common Integer (Bits w) = Bits (wider of_integer w)
common (Bits v) Integer = Bits (wider v of_integer)
common (Bits v) (Bits w) = Bits (wider v w)

-- the type in which an operator reads a value: an enumeration is an integer there, and what is no vector has none
abbrev pub vector_of : ValueType → Option VectorType
vector_of (Vector ty) = Some ty
vector_of Str = None
vector_of Event = None
vector_of (Enumeration n) = Some Integer
vector_of (Class n) = None
vector_of (Group n) = None
vector_of Null = None

-- the type of a value as an operand
abbrev pub operand_type : ValueType → ValueType
operand_type (Vector ty) = Vector ty
operand_type Str = Str
operand_type Event = Event
operand_type (Enumeration n) = Vector Integer
operand_type (Class n) = Class n
operand_type (Group n) = Group n
operand_type Null = Null

-- the type of a single bit, as a value's
abbrev pub bit_type : ValueType
bit_type = Vector one_bit

-- The type of an operator's result, where it works in a type: a logical value, a comparison and a reduction are one
-- bit.
abbrev pub chain_type : ChainOperator → ValueType → ValueType
chain_type chain.LogicalOr ty = bit_type
chain_type chain.LogicalAnd ty = bit_type
chain_type chain.Or ty = ty
chain_type chain.Xor ty = ty
chain_type chain.Xnor ty = ty
chain_type chain.And ty = ty
chain_type chain.Equal ty = bit_type
chain_type chain.NotEqual ty = bit_type
chain_type chain.CaseEqual ty = bit_type
chain_type chain.CaseNotEqual ty = bit_type
chain_type chain.WildEqual ty = bit_type
chain_type chain.WildNotEqual ty = bit_type
chain_type chain.Less ty = bit_type
chain_type chain.LessEqual ty = bit_type
chain_type chain.Greater ty = bit_type
chain_type chain.GreaterEqual ty = bit_type
chain_type chain.ShiftLeft ty = ty
chain_type chain.ShiftRight ty = ty
chain_type chain.Add ty = ty
chain_type chain.Subtract ty = ty
chain_type chain.Multiply ty = ty
chain_type chain.Divide ty = ty
chain_type chain.Remainder ty = ty

abbrev pub unary_type : UnaryOperator → ValueType → ValueType
unary_type unary.LogicalNot ty = bit_type
unary_type unary.Not ty = operand_type ty
unary_type unary.Minus ty = operand_type ty
unary_type unary.Plus ty = operand_type ty
unary_type unary.And ty = bit_type
unary_type unary.Or ty = bit_type
unary_type unary.Xor ty = bit_type
unary_type unary.Nand ty = bit_type
unary_type unary.Nor ty = bit_type
unary_type unary.Xnor ty = bit_type
