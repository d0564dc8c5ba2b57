-- Types of values: which are vectors, which are the same, and what fits what.
use Rattle.std.specs.Prelude.{◌≡◌, ℕ, zero, suc, ◌==◌, ◌||◌, nat_le, Bool, true, false, List, length, slice_get, Option, Some, None, refl}
use Rattle.std.proofs.Common.{suc-le-suc, zero-le}
use Rattle.std.proofs.lemmas.Bool.{leb-true}
use Rattle.std.specs.Option.{option_and_then}
use Rattle.vera_ast.specs.declared.typed.types.Width.{Width}
use Rattle.vera_ast.specs.declared.typed.types.VectorType.{VectorType}
use Rattle.vera_ast.specs.declared.typed.types.VectorType.TheVariants.{Integer, Bits}
use Rattle.vera_ast.specs.declared.typed.types.ValueType.{ValueType}
use Rattle.vera_ast.specs.declared.typed.types.ValueType.TheVariants.{Vector, Str, Event, Enumeration, Class, Group, Null}

-- ---- widths

abbrev pub sized : (m : ℕ) (b : Bool) → nat_le m 127 ≡ b → Option Width
sized m true e = Some (record { bits = suc m; not_empty = suc-le-suc zero-le; within = suc-le-suc (leb-true m 127 e) })
sized m false e = None

-- the width of so many bits, 1 to 128
unfoldable pub width_from : ℕ → Option Width
width_from zero = None
width_from (suc m) = sized m (nat_le m 127) refl

-- ---- vectors

-- what an operator reads as a vector
abbrev pub is_vector : ValueType → Bool
is_vector (Vector v) = true
is_vector (Enumeration n) = true
is_vector _ = false

-- ---- the same type

abbrev pub same_vector : VectorType → VectorType → Bool
same_vector Integer Integer = true
same_vector (Bits v) (Bits w) = v.bits == w.bits
same_vector _ _ = false

-- the very same type: the same kind and width, the same enumeration, class or group
abbrev pub same_type : ValueType → ValueType → Bool
same_type (Vector v) (Vector w) = same_vector v w
same_type Str Str = true
same_type Event Event = true
same_type (Enumeration n) (Enumeration m) = n == m
same_type (Class n) (Class m) = n == m
same_type (Group n) (Group m) = n == m
same_type Null Null = true
same_type _ _ = false

-- ---- classes

-- the parent of a class, where it has one
abbrev pub parent_of : List (Option ℕ) → ℕ → Option ℕ
parent_of parents class = option_and_then (λ parent. parent) (slice_get parents class)

abbrev pub is_of : (ℕ → Bool) → Option ℕ → Bool
is_of test None = false
is_of test (Some n) = test n

-- whether one class is the other or has it as an ancestor, at most so many steps up
abbrev pub is_below : ℕ → List (Option ℕ) → ℕ → ℕ → Bool
is_below zero parents class ancestor = class == ancestor
is_below (suc steps) parents class ancestor = (class == ancestor) || is_of (λ parent. is_below steps parents parent ancestor) (parent_of parents class)

-- by the parent of each class: no class has more ancestors than there are classes
unfoldable pub descends : List (Option ℕ) → ℕ → ℕ → Bool
descends parents class ancestor = is_below (length parents) parents class ancestor

-- ---- what fits what

-- whether a value of the first type fits a variable of the second. Nothing fits a variable for a coverage group.
abbrev pub fits : List (Option ℕ) → ValueType → ValueType → Bool
fits parents (Vector v) (Vector w) = true
fits parents (Enumeration n) (Vector w) = true
fits parents (Enumeration n) (Enumeration m) = n == m
fits parents Str Str = true
fits parents Event Event = true
fits parents Null (Class n) = true
fits parents (Class n) (Class m) = descends parents n m
fits parents _ _ = false

-- whether two objects can be compared: one of their classes descends from the other, or one is null
abbrev pub are_related : List (Option ℕ) → ValueType → ValueType → Bool
are_related parents Null Null = true
are_related parents Null (Class n) = true
are_related parents (Class n) Null = true
are_related parents (Class n) (Class m) = descends parents n m || descends parents m n
are_related parents _ _ = false
