-- Calls: their rules, once what is called and all arguments were walked.
use Rattle.std.specs.Prelude.{ℕ, not, ◌==◌, ◌&&◌, ◌||◌, Bool, true, false, List, [], ◌∷◌, length, slice_get, Option, Some, None, is_some, Ok}
use Rattle.vera_ast.specs.declared.typed.builtin.BuiltInFunction.TheVariants as f
use Rattle.vera_ast.specs.declared.typed.invocation.TypedCallee.TheVariants as callee
use Rattle.vera_ast.specs.declared.typed.expr.TypedExpr.{TypedExpr}
use Rattle.vera_ast.specs.declared.typed.expr.TypedExpr.TheVariants as e
use Rattle.vera_ast.specs.declared.typed.format.FormatPart.{FormatPart}
use Rattle.vera_ast.specs.declared.typed.place.TypedPlace.{TypedPlace}
use Rattle.vera_ast.specs.declared.typed.types.ValueType.{ValueType}
use Rattle.vera_ast.specs.declared.typed.types.ValueType.TheVariants as t
use Rattle.vera_ast.specs.declared.typed.types.VectorType.TheVariants.{Integer}
use Rattle.typing_rules.specs.Arguments.{all_meet, all_settable, all_suit}
use Rattle.typing_rules.specs.Operands.{typed_arguments, mode_in, count_in, operands_in, types_in, places_in, format_in, behind_format, types_printed, count_printed}
use Rattle.typing_rules.specs.Checked.{Checked, ◌>>◌, refuse, keeps, known, wrong_type, wrong_count, not_assignable, not_here}
use Rattle.typing_rules.specs.Heads.{typed}
use Rattle.typing_rules.specs.Signatures.{Wants, exactly, takes, wants_of, wants_in, wants_by, count_of, counts}
use Rattle.typing_rules.specs.Outcomes.{outcome, gives_a_number, may_wait, is_for_tasks}
use Rattle.typing_rules.specs.declared.context.Body.{Body}
use Rattle.typing_rules.specs.declared.context.Body.TheVariants as body
use Rattle.typing_rules.specs.declared.context.Outline.{Outline}
use Rattle.typing_rules.specs.declared.head.Argument.{Argument}
use Rattle.typing_rules.specs.declared.head.Head.{Head}
use Rattle.typing_rules.specs.declared.head.Head.TheVariants as h
use Rattle.typing_rules.specs.declared.head.Stand.{Stand}
use Rattle.typing_rules.specs.declared.head.Stand.TheVariants as stand
use Rattle.typing_rules.specs.declared.names.Meaning.{Meaning}
use Rattle.typing_rules.specs.declared.names.Meaning.TheVariants as means
use Rattle.typing_rules.specs.declared.names.Routine.{Routine}
use Rattle.typing_rules.specs.declared.words.BuiltIn.{BuiltIn}
use Rattle.typing_rules.specs.declared.words.Mode.{Mode}
use Rattle.typing_rules.specs.declared.words.Outcome.{Outcome}
use Rattle.typing_rules.specs.declared.words.Outcome.TheVariants as o

abbrev pub is_statement : Stand → Bool
is_statement stand.Statement = true
is_statement _ = false

-- a call that may wait stands as a statement, or as the whole right side of an assignment
abbrev pub may_wait_here : Stand → Bool
may_wait_here stand.Inside = false
may_wait_here stand.Place = false
may_wait_here _ = true

abbrev pub is_function : Body → Bool
is_function body.Function = true
is_function _ = false

abbrev pub integer_value : TypedExpr → Head
integer_value x = h.Value (typed x (t.Vector Integer))

abbrev pub only : {A : Type 0} → List A → Option A
only (x ∷ []) = Some x
only _ = None

-- ---- built-in calls

abbrev pub is_wrong_stand : Stand → Outcome → Bool
is_wrong_stand s out = not (gives_a_number out || is_statement s)

abbrev pub is_refused_here : Body → Stand → Outcome → Bool
is_refused_here owner s out = (is_function owner && is_for_tasks out) || (may_wait out && not (may_wait_here s))

abbrev pub keeps_built_in : Body → Stand → ℕ → BuiltIn → List Argument → Checked (Unit {0})
keeps_built_in owner s line b xs = keeps line
    ((wrong_type, not (all_meet (wants_in b (mode_in xs)) xs && types_printed (format_in xs) (types_in (behind_format xs))) || is_wrong_stand s (outcome b (mode_in xs) (count_in xs)))
    ∷ (wrong_count, not (counts (count_of b (mode_in xs)) (count_in xs) && count_printed (format_in xs) (types_in (behind_format xs))))
    ∷ (not_assignable, not (all_settable (wants_of b) xs))
    ∷ (not_here, is_refused_here owner s (outcome b (mode_in xs) (count_in xs))) ∷ [])

abbrev pub printing_into : List TypedPlace → Option (List FormatPart) → List TypedExpr → Option Head
printing_into (target ∷ []) (Some parts) operands = Some (h.PrintsInto target parts operands)
printing_into _ _ operands = None

abbrev pub printing : Option (List FormatPart) → List TypedExpr → Option Head
printing (Some parts) operands = Some (h.Prints parts operands)
printing None operands = None

abbrev pub built_by : Outcome → List Argument → Option Head
built_by (o.Gives function) xs = Some (integer_value (e.BuiltIn function (operands_in xs) (only (places_in xs))))
built_by (o.MayWait function) xs = Some (h.Waits (record { function = function; operands = operands_in xs; target = only (places_in xs) }))
built_by (o.Does task) xs = Some (h.BuiltIn task (operands_in xs) (places_in xs))
built_by o.Prints xs = printing (format_in xs) (operands_in (behind_format xs))
built_by o.PrintsInto xs = printing_into (places_in xs) (format_in xs) (operands_in (behind_format xs))

unfoldable pub built_in_call : Body → Stand → ℕ → BuiltIn → List Argument → Checked Head
built_in_call owner s line b xs = do
  keeps_built_in owner s line b xs
  known wrong_count line (built_by (outcome b (mode_in xs) (count_in xs)) xs)

-- ---- calls of the user's tasks and functions

abbrev pub is_task : Routine → Bool
is_task r = not (is_some r.gives)

abbrev pub keeps_user : Outline → Body → Stand → ℕ → Routine → List Argument → Checked (Unit {0})
keeps_user outline owner s line r xs = keeps line
    ((wrong_type, not (all_suit outline.classes r.parameters xs) || (is_task r && not (is_statement s)))
    ∷ (wrong_count, not (length r.parameters == length xs))
    ∷ (not_assignable, not (all_settable (wants_by r.parameters) xs))
    ∷ (not_here, is_function owner && is_task r) ∷ [])

abbrev pub user_head : Meaning → ℕ → Option ValueType → List Argument → Head
user_head means n None xs = h.Task (record { callee = callee.Task n; arguments = typed_arguments xs })
user_head means n (Some of) xs = h.Value (typed (e.Call (record { callee = callee.Function n; arguments = typed_arguments xs }) of) of)

abbrev pub routine_of : Outline → Meaning → Option Routine
routine_of outline (means.Task n) = slice_get outline.tasks n
routine_of outline (means.Function n) = slice_get outline.functions n
routine_of outline _ = None

abbrev pub number_of_routine : Meaning → ℕ
number_of_routine (means.Task n) = n
number_of_routine (means.Function n) = n
number_of_routine _ = 0

-- ---- any call

abbrev pub is_len : List Argument → Bool
is_len [] = true
is_len (x ∷ xs) = false

abbrev pub call_named : Outline → Body → Stand → ℕ → Meaning → Option Routine → List Argument → Checked Head
call_named outline owner s line means None xs = refuse wrong_type line
call_named outline owner s line means (Some r) xs = keeps_user outline owner s line r xs >> Ok (user_head means (number_of_routine means) r.gives xs)

unfoldable pub call : Outline → Body → Stand → ℕ → Head → List Argument → Checked Head
call outline owner s line (h.Word b) xs = built_in_call owner s line b xs
call outline owner s line (h.Named means) xs = call_named outline owner s line means (routine_of outline means) xs
call outline owner s line (h.Length x) xs = keeps line ((wrong_count, not (is_len xs)) ∷ []) >> Ok (integer_value (e.BuiltIn f.Length (x ∷ []) None))
call outline owner s line h.New xs = Ok h.New
call outline owner s line _ xs = refuse wrong_type line

-- what a call of this head wants as its arguments, and its mode words
abbrev pub wanted_by : Option Routine → Wants
wanted_by None = exactly []
wanted_by (Some r) = wants_by r.parameters

unfoldable pub wanted : Outline → Head → Wants
wanted outline (h.Word b) = wants_of b
wanted outline (h.Named means) = wanted_by (routine_of outline means)
wanted outline _ = exactly []

abbrev pub modes_taken : Head → Mode → Bool
modes_taken (h.Word b) mode = takes b mode
modes_taken _ mode = false
