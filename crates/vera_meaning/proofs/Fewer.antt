-- What follows a value, or an item that is taken off, comes only with ticks that are not above those given.
use Rattle.std.proofs.Common.{◌≡◌, ℕ, zero, suc, ◌<◌, ◌≤◌, List, [], ◌∷◌, Option, Some, None, true, false, refl, ap, arith}
use Rattle.four_state.specs.declared.bit.Bit.{Bit}
use Rattle.store_api.specs.declared.loc.Loc.{Loc}
use Rattle.store_api.specs.declared.loc.Loc.TheVariants as locs
use Rattle.slice_core.specs.Tree.{Tree, Asks, Emits, Prints, Drives, Cycle}
use Rattle.vera_ast.specs.declared.typed.expr.TypedExpr.{TypedExpr, end_of-TypedExpr, more_of-TypedExpr, Row_of-TypedLink, end_of-TypedLink, more_of-TypedLink}
use Rattle.vera_ast.specs.declared.typed.expr.TypedExpr.TheVariants.{Number, Variable, Sample, Chain'}
use Rattle.vera_ast.specs.declared.typed.names.TypedSignalName.{TypedSignalName}
use Rattle.vera_ast.specs.declared.typed.place.TypedPlace.{TypedPlace}
use Rattle.vera_ast.specs.declared.typed.place.TypedPlace.TheVariants as places
use Rattle.vera_ast.specs.declared.typed.stmt.TypedChange.{TypedChange}
use Rattle.vera_ast.specs.declared.typed.stmt.TypedChange.TheVariants.{Assign}
use Rattle.vera_ast.specs.declared.typed.stmt.TypedStmt.TheVariants.{Step, While', Printf, Drive, Edge}
use Rattle.vera_ast.specs.declared.typed.types.ValueType.{ValueType}
use Rattle.vera_ast.specs.declared.typed.types.ValueType.TheVariants.{Vector}
use Rattle.vera_ast.specs.declared.typed.types.VectorType.TheVariants as types
use Rattle.vera_ast.specs.ExprTypes.{type_of}
use Rattle.vera_ast.specs.Types.{chain_type}
use Rattle.vera_meaning.specs.Rests.{Here, Item, Do, Again, Rest}
use Rattle.vera_meaning.specs.Operators.{unknown, fitted, applied}
use Rattle.vera_meaning.specs.Formats.{Argument, formatted}
use Rattle.vera_meaning.specs.Expressions.{tick, place_of, bits_at, read_at, value, chained, arguments, Next}
use Rattle.vera_meaning.specs.Statements.{Exit, After, Inside, Leaves, written_at, changed, driven, take_item, is_free}

read_at-fewer : (l : Option Loc) (ty : ValueType) (ticks : ℕ) (f g : Next) → ((bits : List Bit) (left : ℕ) → left ≤ ticks → f bits left ≡ g bits left) → read_at l ty ticks f ≡ read_at l ty ticks g
read_at-fewer None ty ticks f g same = same (unknown ty) ticks (omega arith)
read_at-fewer (Some l) ty ticks f g same = ap (Asks l) (λ i found. same (bits_at ty found) ticks (omega arith) i)

mutual
  pub value-fewer : (e : TypedExpr) (ticks : ℕ) (f g : Next) → ((bits : List Bit) (left : ℕ) → left ≤ ticks → f bits left ≡ g bits left) → value e ticks f ≡ value e ticks g
  value-fewer (Number bits ty) ticks f g same = same bits ticks (omega arith)
  value-fewer (Variable v) ticks f g same = read_at-fewer (place_of v.place) v.of ticks f g same
  value-fewer (Sample s) ticks f g same = read_at-fewer (Some (locs.Sample s.number)) (Vector (types.Bits s.width)) ticks f g same
  value-fewer (Chain' p (more_of-TypedExpr first end_of-TypedExpr) q links) ticks f g same =
      value-fewer first ticks _ _ (λ bits left le. chained-fewer links (type_of first) bits left f g (λ b l le'. same b l (omega arith)))
  value-fewer other ticks f g same = same (unknown (type_of other)) ticks (omega arith)

  chained-fewer : {m : _} (links : Row_of-TypedLink m) (ty : ValueType) (bits : List Bit) (ticks : ℕ) (f g : Next) → ((b : List Bit) (left : ℕ) → left ≤ ticks → f b left ≡ g b left) → chained links ty bits ticks f ≡ chained links ty bits ticks g
  chained-fewer end_of-TypedLink ty bits ticks f g same = same bits ticks (omega arith)
  chained-fewer (more_of-TypedLink operator works_in operand links) ty bits ticks f g same =
      value-fewer operand ticks _ _ (λ other left le. chained-fewer links (chain_type operator works_in) (applied operator works_in (fitted ty works_in bits) (fitted (type_of operand) works_in other)) left f g (λ b l le'. same b l (omega arith)))

pub arguments-fewer : (es : List TypedExpr) (ticks : ℕ) (f g : List Argument → ℕ → Tree Rest) → ((args : List Argument) (left : ℕ) → left ≤ ticks → f args left ≡ g args left) → arguments es ticks f ≡ arguments es ticks g
arguments-fewer [] ticks f g same = same [] ticks (omega arith)
arguments-fewer (e ∷ es) ticks f g same =
    value-fewer e ticks _ _ (λ bits left le. arguments-fewer es left _ _ (λ args l le'. same (record { of = type_of e; bits = bits } ∷ args) l (omega arith)))

-- a tick
tick-fewer : (ticks : ℕ) (f g : ℕ → Tree Rest) → ((left : ℕ) → left < ticks → f left ≡ g left) → tick ticks f ≡ tick ticks g
tick-fewer zero f g same = refl
tick-fewer (suc ticks) f g same = same ticks (omega arith)

changed-fewer : (target : TypedPlace) (change : TypedChange) (ticks : ℕ) (f g : ℕ → Tree Rest) → ((left : ℕ) → left ≤ ticks → f left ≡ g left) → changed target change ticks f ≡ changed target change ticks g
changed-fewer (places.Variable v) (Assign e) ticks f g same =
    value-fewer e ticks _ _ (λ bits left le. ap (written_at (place_of v.place) (fitted (type_of e) v.of bits)) (same left le))
changed-fewer target change ticks f g same = same ticks (omega arith)

driven-fewer : (here : Here) (name : TypedSignalName) (delay : Option TypedExpr) (e : TypedExpr) (ticks : ℕ) (f g : ℕ → Tree Rest) → ((left : ℕ) → left ≤ ticks → f left ≡ g left) → driven here name delay e ticks f ≡ driven here name delay e ticks g
driven-fewer here name None e ticks f g same =
    value-fewer e ticks _ _ (λ bits left le. ap (Emits (Drives here.cycle name.number (fitted (type_of e) (Vector (types.Bits name.width)) bits))) (same left le))
driven-fewer here name (Some delay) e ticks f g same = same ticks (omega arith)

-- an item that takes a tick
pub item-fewer : (here : Here) (i : Item) (ticks : ℕ) (f g : Exit → ℕ → Tree Rest) → is_free i ≡ false → ((exit : Exit) (left : ℕ) → left < ticks → f exit left ≡ g exit left) → take_item here i ticks f ≡ take_item here i ticks g
item-fewer here (Do (Step s)) ticks f g timed same =
    tick-fewer ticks _ _ (λ left lt. changed-fewer s.target s.change left _ _ (λ l le. same After l (omega arith)))
item-fewer here (Do (While' line condition p body)) ticks f g timed same = tick-fewer ticks _ _ (same Inside)
item-fewer here (Do (Printf p)) ticks f g timed same =
    tick-fewer ticks _ _ (λ left lt. arguments-fewer p.arguments left _ _ (λ args l le. ap (Emits (Prints (formatted p.format args))) (same After l (omega arith))))
item-fewer here (Do (Drive d)) ticks f g timed same =
    tick-fewer ticks _ _ (λ left lt. driven-fewer here d.target d.delay d.value left _ _ (λ l le. same After l (omega arith)))
item-fewer here (Do (Edge e)) ticks f g timed same = tick-fewer ticks _ _ (same (Leaves (Cycle 1)))
item-fewer here (Do other) ticks f g timed same = absurd cc
item-fewer here (Again line condition body) ticks f g timed same =
    tick-fewer ticks _ _ (λ left lt. value-fewer condition left _ _ (λ bits l le. same _ l (omega arith)))

-- an item that takes none
pub item-free : (here : Here) (i : Item) (ticks : ℕ) (f : Exit → ℕ → Tree Rest) → is_free i ≡ true → take_item here i ticks f ≡ f Inside ticks
item-free here (Do (Step s)) ticks f free = absurd cc
item-free here (Do (While' line condition p body)) ticks f free = absurd cc
item-free here (Do (Printf p)) ticks f free = absurd cc
item-free here (Do (Drive d)) ticks f free = absurd cc
item-free here (Do (Edge e)) ticks f free = absurd cc
item-free here (Do other) ticks f free = refl
item-free here (Again line condition body) ticks f free = absurd cc
