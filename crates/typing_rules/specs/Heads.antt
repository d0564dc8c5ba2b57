-- What a `post` stands for, read as a value, taken as a place, or taken as an argument.
use Rattle.std.specs.Prelude.{ℕ, ◌==◌, ◌&&◌, Bool, true, false, if◌then◌else◌, List, [], ◌∷◌, length, Option, Some, None, Ok, unwrap_or}
use Rattle.four_state.specs.Numbers.{number_of}
use Rattle.vera_ast.specs.Types.{one, one_bit}
use Rattle.vera_ast.specs.declared.tree.expressions.Number.{Number}
use Rattle.vera_ast.specs.declared.tree.interfaces.Direction.{Direction}
use Rattle.vera_ast.specs.declared.tree.interfaces.Direction.TheVariants.{Input, Output}
use Rattle.vera_ast.specs.declared.typed.expr.TypedExpr.{TypedExpr}
use Rattle.vera_ast.specs.declared.typed.expr.TypedExpr.TheVariants as e
use Rattle.vera_ast.specs.declared.typed.names.TypedSignalName.{TypedSignalName}
use Rattle.vera_ast.specs.declared.typed.place.TypedPlace.{TypedPlace}
use Rattle.vera_ast.specs.declared.typed.place.TypedPlace.TheVariants as p
use Rattle.vera_ast.specs.declared.typed.types.ValueType.{ValueType}
use Rattle.vera_ast.specs.declared.typed.types.ValueType.TheVariants as t
use Rattle.vera_ast.specs.declared.typed.types.VectorType.{VectorType}
use Rattle.vera_ast.specs.declared.typed.types.VectorType.TheVariants as vector
use Rattle.typing_rules.specs.Checked.{Checked, ◌>>=◌, ◌>>◌, refuse, keeps, wrong_type, wrong_signal}
use Rattle.typing_rules.specs.Types.{width_from}
use Rattle.typing_rules.specs.declared.head.Argument.{Argument}
use Rattle.typing_rules.specs.declared.head.Argument.TheVariants as a
use Rattle.typing_rules.specs.declared.head.Cut.{Cut}
use Rattle.typing_rules.specs.declared.head.Cut.TheVariants as cut
use Rattle.typing_rules.specs.declared.head.Head.{Head}
use Rattle.typing_rules.specs.declared.head.Head.TheVariants as h
use Rattle.typing_rules.specs.declared.head.Typed.{Typed}
use Rattle.typing_rules.specs.declared.head.Whole.{Whole}
use Rattle.typing_rules.specs.declared.head.Whole.TheVariants as w
use Rattle.typing_rules.specs.declared.words.Mode.{Mode}
use Rattle.typing_rules.specs.declared.words.Mode.TheVariants as m
use Rattle.typing_rules.specs.declared.words.Want.{Want}
use Rattle.typing_rules.specs.declared.words.Want.TheVariants as want

abbrev pub typed : TypedExpr → ValueType → Typed
typed x of = record { expr = x; of = of }

-- ---- literals: an unsized decimal is an integer, any other number a bit vector

abbrev pub number_type : Number → VectorType
number_type n = if n.is_decimal then vector.Integer else vector.Bits (unwrap_or (width_from (length n.value)) one)

abbrev pub number : Number → Typed
number n = typed (e.Number n.value (number_type n)) (t.Vector (number_type n))

abbrev pub is_zero : Number → Bool
is_zero n = n.is_decimal && (number_of n.value == 0)

-- ---- places

abbrev pub whole_type : Whole → ValueType
whole_type (w.Variable v) = v.of
whole_type (w.Field f) = f.of
whole_type (w.Element x) = x.of

abbrev pub read : Whole → TypedExpr
read (w.Variable v) = e.Variable v
read (w.Field f) = e.Field f
read (w.Element x) = e.Element x

abbrev pub place : Whole → TypedPlace
place (w.Variable v) = p.Variable v
place (w.Field f) = p.Field f
place (w.Element x) = p.Element x

abbrev pub cut_type : Cut → VectorType
cut_type (cut.Bit i) = one_bit
cut_type (cut.Bits r) = vector.Bits r.width

abbrev pub cut_of : TypedExpr → Cut → TypedExpr
cut_of x (cut.Bit i) = e.Bit x i
cut_of x (cut.Bits r) = e.Bits x r

abbrev pub part_place : Whole → Cut → TypedPlace
part_place x (cut.Bit i) = p.Bit (place x) i
part_place x (cut.Bits r) = p.Bits (place x) r

abbrev pub signal_type : TypedSignalName → ValueType
signal_type s = t.Vector (vector.Bits s.width)

abbrev pub is_output : Direction → Bool
is_output Input = false
is_output Output = true

-- the expression of a value that may be missing
abbrev pub expr_or_missing : Option Typed → Option TypedExpr
expr_or_missing None = None
expr_or_missing (Some v) = Some v.expr

-- an event can't be assigned
abbrev pub is_event : ValueType → Bool
is_event t.Event = true
is_event _ = false

abbrev pub is_element : Whole → Bool
is_element (w.Element x) = true
is_element _ = false

-- ---- the value of a head: an output signal isn't read, and what isn't called or used by element is no value

unfoldable pub value_of : ℕ → Head → Checked Typed
value_of line (h.Number n) = Ok (number n)
value_of line (h.Str s) = Ok (typed (e.Str s) t.Str)
value_of line (h.Value v) = Ok v
value_of line (h.Whole x) = Ok (typed (read x) (whole_type x))
value_of line (h.Part x c) = Ok (typed (cut_of (read x) c) (t.Vector (cut_type c)))
value_of line (h.Signal s d) = keeps line ((wrong_signal, is_output d) ∷ []) >> Ok (typed (e.Sample s) (signal_type s))
value_of line (h.SignalPart s d c) = keeps line ((wrong_signal, is_output d) ∷ []) >> Ok (typed (cut_of (e.Sample s) c) (t.Vector (cut_type c)))
value_of line _ = refuse wrong_type line

-- ---- an argument, by what its call wants there

abbrev pub wants_variable : Want → Bool
wants_variable want.StrVariable = true
wants_variable want.ItemVariable = true
wants_variable want.ObjectVariable = true
wants_variable want.WholeVariable = true
wants_variable want.Variable = true
wants_variable _ = false

-- a mode word stands only as its call's mode
abbrev pub mode_wanted : (Mode → Bool) → Want → Mode → Bool
mode_wanted takes want.Mode mode = takes mode
mode_wanted takes want.ModeOrEvent mode = takes mode
mode_wanted takes want.Check m.Check = true
mode_wanted takes _ _ = false

abbrev pub str_argument : Want → List ℕ → Argument
str_argument want.Format s = a.Literal s
str_argument _ s = a.Value (typed (e.Str s) t.Str)

abbrev pub number_argument : Want → Number → Argument
number_argument want.Zero n = if is_zero n then a.Zero else a.Value (number n)
number_argument _ n = a.Value (number n)

abbrev pub value_argument : ℕ → Head → Checked Argument
value_argument line head = value_of line head >>= (λ v. Ok (a.Value v))

-- where a variable is wanted nothing is read
unfoldable pub argument : (Mode → Bool) → Want → ℕ → Head → Checked Argument
argument takes want line (h.Mode mode) = if mode_wanted takes want mode then Ok (a.Mode mode) else refuse wrong_type line
argument takes want line (h.Str s) = Ok (str_argument want s)
argument takes want line (h.Number n) = Ok (number_argument want n)
argument takes want line (h.Whole x) = if wants_variable want then Ok (a.Whole x) else value_argument line (h.Whole x)
argument takes want line (h.Part x c) = if wants_variable want then Ok (a.NoVariable (t.Vector (cut_type c))) else value_argument line (h.Part x c)
argument takes want line (h.Signal s d) = if wants_variable want then Ok (a.NoVariable (signal_type s)) else value_argument line (h.Signal s d)
argument takes want line (h.SignalPart s d c) = if wants_variable want then Ok (a.NoVariable (t.Vector (cut_type c))) else value_argument line (h.SignalPart s d c)
argument takes want line head = value_argument line head
