-- The value of an expression, as what its slice asks. Parts are evaluated from left to right.
use Rattle.std.specs.Prelude.{ℕ, zero, suc, List, [], ◌∷◌, Option, Some, None}
use Rattle.four_state.specs.declared.bit.Bit.{Bit}
use Rattle.store_api.specs.declared.loc.Loc.{Loc}
use Rattle.store_api.specs.declared.loc.Loc.TheVariants.{Global}
use Rattle.store_api.specs.declared.loc.Loc.TheVariants as locs
use Rattle.store_api.specs.declared.val.Val.{Val}
use Rattle.store_api.specs.declared.val.Val.TheVariants.{Bits}
use Rattle.slice_core.specs.Tree.{Tree, Asks, Ends, Spent}
use Rattle.vera_ast.specs.declared.typed.expr.TypedExpr.{TypedExpr, end_of-TypedExpr, more_of-TypedExpr, Row_of-TypedLink, end_of-TypedLink, more_of-TypedLink}
use Rattle.vera_ast.specs.declared.typed.expr.TypedExpr.TheVariants.{Number, Variable, Sample, Chain'}
use Rattle.vera_ast.specs.declared.typed.names.VariablePlace.{VariablePlace}
use Rattle.vera_ast.specs.declared.typed.names.VariablePlace.TheVariants.{Program}
use Rattle.vera_ast.specs.declared.typed.types.ValueType.{ValueType}
use Rattle.vera_ast.specs.declared.typed.types.ValueType.TheVariants.{Vector}
use Rattle.vera_ast.specs.declared.typed.types.VectorType.TheVariants as types
use Rattle.vera_ast.specs.ExprTypes.{type_of}
use Rattle.vera_ast.specs.Types.{chain_type}
use Rattle.vera_meaning.specs.Rests.{Rest, nothing_left}
use Rattle.vera_meaning.specs.Operators.{unknown, fitted, applied}
use Rattle.vera_meaning.specs.Formats.{Argument}

-- one tick of the slice's budget, or the slice is spent
abbrev pub tick : ℕ → (ℕ → Tree Rest) → Tree Rest
tick zero next = Ends Spent nothing_left
tick (suc ticks) next = next ticks

-- the place of a variable: one of the program has one; the others aren't built
abbrev pub place_of : VariablePlace → Option Loc
place_of (Program n) = Some (Global n)
place_of other = None

-- what a variable or a sample of this type has: all bits are x before anything was written
abbrev pub bits_at : ValueType → Option Val → List Bit
bits_at ty None = unknown ty
bits_at ty (Some (Bits bits)) = bits

-- what follows a value, with the ticks that are left
abbrev pub Next : Type 0
Next = List Bit → ℕ → Tree Rest

-- what is at a place of this type, where it is built
abbrev pub read_at : Option Loc → ValueType → ℕ → Next → Tree Rest
read_at None ty ticks next = next (unknown ty) ticks
read_at (Some l) ty ticks next = Asks l (λ found. next (bits_at ty found) ticks)

abbrev mutual
  -- Other expressions aren't built: they ask nothing, and no bit of theirs is known.
  pub value : TypedExpr → ℕ → Next → Tree Rest
  value (Number bits ty) ticks next = next bits ticks
  value (Variable v) ticks next = read_at (place_of v.place) v.of ticks next
  value (Sample s) ticks next = read_at (Some (locs.Sample s.number)) (Vector (types.Bits s.width)) ticks next
  value (Chain' p (more_of-TypedExpr first end_of-TypedExpr) q links) ticks next =
      value first ticks (λ bits left. chained links (type_of first) bits left next)
  value other ticks next = next (unknown (type_of other)) ticks

  -- the operators of a chain after a value of this type, grouped from the left
  pub chained : {m : _} → Row_of-TypedLink m → ValueType → List Bit → ℕ → Next → Tree Rest
  chained end_of-TypedLink ty bits ticks next = next bits ticks
  chained (more_of-TypedLink operator works_in operand links) ty bits ticks next =
      value operand ticks (λ other left.
      chained links (chain_type operator works_in) (applied operator works_in (fitted ty works_in bits) (fitted (type_of operand) works_in other)) left next)

-- the values of arguments, in order
abbrev pub arguments : List TypedExpr → ℕ → (List Argument → ℕ → Tree Rest) → Tree Rest
arguments [] ticks next = next [] ticks
arguments (e ∷ es) ticks next =
    value e ticks (λ bits left. arguments es left (λ rest left'. next (record { of = type_of e; bits = bits } ∷ rest) left'))
