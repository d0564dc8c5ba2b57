-- The same of calls.
use Rattle.std.proofs.Common.{◌≡◌, refl, ℕ, List, [], ◌∷◌, Option, Some, None}
use Rattle.vera_ast.proofs.TypedExprViews.{call-is, builtin-is}
use Rattle.vera_ast.specs.ExprTypes.{type_of}
use Rattle.vera_ast.specs.declared.typed.builtin.BuiltInFunction.TheVariants.{Length}
use Rattle.vera_ast.specs.declared.typed.expr.TypedExpr.{TypedExpr}
use Rattle.vera_ast.specs.declared.typed.format.FormatPart.{FormatPart}
use Rattle.vera_ast.specs.declared.typed.invocation.TypedCall.{TypedCall}
use Rattle.vera_ast.specs.declared.typed.invocation.TypedCallee.TheVariants as callee
use Rattle.vera_ast.specs.declared.typed.place.TypedPlace.{TypedPlace}
use Rattle.vera_ast.specs.declared.typed.types.ValueType.{ValueType}
use Rattle.vera_ast.specs.declared.typed.types.ValueType.TheVariants as t
use Rattle.vera_ast.specs.declared.typed.types.VectorType.TheVariants.{Integer}
use Rattle.typing_rules.proofs.Sound.{HeadSound, after}
use Rattle.typing_rules.specs.Calls.{only, routine_of, number_of_routine, built_by, printing, printing_into, built_in_call, user_head, call_named, call}
use Rattle.typing_rules.specs.Checked.{refuse, known}
use Rattle.typing_rules.specs.Laws.{Holds}
use Rattle.typing_rules.specs.Operands.{typed_arguments, operands_in, places_in, format_in, behind_format}
use Rattle.typing_rules.specs.declared.context.Body.{Body}
use Rattle.typing_rules.specs.declared.context.Outline.{Outline}
use Rattle.typing_rules.specs.declared.head.Argument.{Argument}
use Rattle.typing_rules.specs.declared.head.Head.{Head}
use Rattle.typing_rules.specs.declared.head.Head.TheVariants as h
use Rattle.typing_rules.specs.declared.head.Stand.{Stand}
use Rattle.typing_rules.specs.declared.names.Meaning.{Meaning}
use Rattle.typing_rules.specs.declared.names.Routine.{Routine}
use Rattle.typing_rules.specs.declared.words.BuiltIn.{BuiltIn}
use Rattle.typing_rules.specs.declared.words.Outcome.{Outcome}
use Rattle.typing_rules.specs.declared.words.Outcome.TheVariants as o

abbrev OptionSound : Option Head → Type 0
OptionSound None = Unit {0}
OptionSound (Some head) = HeadSound head

known_sound : (code line : ℕ) (head : Option Head) → OptionSound head → Holds HeadSound (known code line head)
unfolding known refuse
known_sound code line None s = tt
known_sound code line (Some head) s = s

printing_sound : (parts : Option (List FormatPart)) (operands : List TypedExpr) → OptionSound (printing parts operands)
printing_sound None operands = tt
printing_sound (Some parts) operands = tt

printing_into_sound : (targets : List TypedPlace) (parts : Option (List FormatPart)) (operands : List TypedExpr) → OptionSound (printing_into targets parts operands)
printing_into_sound [] parts operands = tt
printing_into_sound (target ∷ []) None operands = tt
printing_into_sound (target ∷ []) (Some parts) operands = tt
printing_into_sound (target ∷ second ∷ more) parts operands = tt

built_sound : (out : Outcome) (xs : List Argument) → OptionSound (built_by out xs)
built_sound (o.Gives function) xs = builtin-is (λ e. type_of e ≡ t.Vector Integer) function (operands_in xs) (only (places_in xs)) refl
built_sound (o.MayWait function) xs = tt
built_sound (o.Does task) xs = tt
built_sound o.Prints xs = printing_sound (format_in xs) (operands_in (behind_format xs))
built_sound o.PrintsInto xs = printing_into_sound (places_in xs) (format_in xs) (operands_in (behind_format xs))

built_in_sound : (owner : Body) (s : Stand) (line : ℕ) (b : BuiltIn) (xs : List Argument) → Holds HeadSound (built_in_call owner s line b xs)
unfolding built_in_call
built_in_sound owner s line b xs = after HeadSound _ _ (known_sound _ line _ (built_sound _ xs))

user_sound : (means : Meaning) (n : ℕ) (gives : Option ValueType) (xs : List Argument) → HeadSound (user_head means n gives xs)
user_sound means n None xs = tt
user_sound means n (Some of) xs =
    let c : TypedCall = record { callee = callee.Function n; arguments = typed_arguments xs } in
    call-is (λ e. type_of e ≡ of) c of refl

call_named_sound : (outline : Outline) (owner : Body) (s : Stand) (line : ℕ) (means : Meaning) (r : Option Routine) (xs : List Argument) → Holds HeadSound (call_named outline owner s line means r xs)
unfolding refuse
call_named_sound outline owner s line means None xs = tt
call_named_sound outline owner s line means (Some r) xs = after HeadSound _ _ (user_sound means (number_of_routine means) r.gives xs)

pub call_sound : (outline : Outline) (owner : Body) (s : Stand) (line : ℕ) (head : Head) (xs : List Argument) → Holds HeadSound (call outline owner s line head xs)
unfolding call refuse
call_sound outline owner s line (h.Word b) xs = built_in_sound owner s line b xs
call_sound outline owner s line (h.Named means) xs = call_named_sound outline owner s line means (routine_of outline means) xs
call_sound outline owner s line (h.Length x) xs = after HeadSound _ _ (builtin-is (λ e. type_of e ≡ t.Vector Integer) Length (x ∷ []) None refl)
call_sound outline owner s line h.New xs = tt
call_sound outline owner s line (h.Number n) xs = tt
call_sound outline owner s line (h.Str text) xs = tt
call_sound outline owner s line (h.Value x) xs = tt
call_sound outline owner s line (h.Whole x) xs = tt
call_sound outline owner s line (h.Part x c) xs = tt
call_sound outline owner s line (h.Array a l of) xs = tt
call_sound outline owner s line (h.Signal signal d) xs = tt
call_sound outline owner s line (h.SignalPart signal d c) xs = tt
call_sound outline owner s line (h.Waits w) xs = tt
call_sound outline owner s line (h.Task c) xs = tt
call_sound outline owner s line (h.BuiltIn task operands targets) xs = tt
call_sound outline owner s line (h.Prints format arguments) xs = tt
call_sound outline owner s line (h.PrintsInto target format arguments) xs = tt
call_sound outline owner s line (h.Mode m) xs = tt
