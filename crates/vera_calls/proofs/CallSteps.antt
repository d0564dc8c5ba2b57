-- Calls, step by step, as the code takes them.
use Rattle.std.proofs.Common.{◌≡◌, ℕ, true, false, List, [], ◌∷◌, Option, Some, None, sym, ap, ◌∙◌}
use Rattle.std.specs.Prelude.{not, Ok, Err}
use Rattle.vera_ast.specs.declared.refusal.FrontError.{FrontError}
use Rattle.vera_ast.specs.declared.typed.builtin.BuiltInFunction.TheVariants as f
use Rattle.vera_ast.specs.declared.typed.expr.TypedExpr.{TypedExpr}
use Rattle.vera_ast.specs.declared.typed.expr.TypedExpr.TheVariants as e
use Rattle.vera_names.proofs.Answering.{ok_then, passed_on, refused_by, passed_by, along, answered_ok, answered_err}
use Rattle.typing_rules.specs.Answers.{Answers, answered}
use Rattle.typing_rules.specs.Calls.{integer_value, keeps_built_in, built_by, built_in_call, keeps_user, user_head, number_of_routine, is_len, call_named}
use Rattle.typing_rules.specs.Checked.{known, refuse}
use Rattle.typing_rules.specs.Operands.{mode_in, count_in}
use Rattle.typing_rules.specs.Outcomes.{outcome}
use Rattle.typing_rules.specs.declared.context.Body.{Body}
use Rattle.typing_rules.specs.declared.context.Outline.{Outline}
use Rattle.typing_rules.specs.declared.head.Argument.{Argument}
use Rattle.typing_rules.specs.declared.head.Head.{Head}
use Rattle.typing_rules.specs.declared.head.Stand.{Stand}
use Rattle.typing_rules.specs.declared.names.Meaning.{Meaning}
use Rattle.typing_rules.specs.declared.names.Routine.{Routine}
use Rattle.typing_rules.specs.declared.words.BuiltIn.{BuiltIn}
use Rattle.vera_calls.specs.CallForms.{called_length}

-- ---- built-in calls

pub built_in_refused : (owner : Body) (s : Stand) (line : ℕ) (b : BuiltIn) (xs : List Argument) (x : FrontError) → Answers (keeps_built_in owner s line b xs) (Err x) → Answers (built_in_call owner s line b xs) (Err x)
unfolding built_in_call
built_in_refused owner s line b xs x a = passed_on (keeps_built_in owner s line b xs) _ x a

pub built_in_kept : (owner : Body) (s : Stand) (line : ℕ) (b : BuiltIn) (xs : List Argument) → keeps_built_in owner s line b xs ≡ Ok tt → built_in_call owner s line b xs ≡ known 33 line (built_by (outcome b (mode_in xs) (count_in xs)) xs)
unfolding built_in_call
built_in_kept owner s line b xs kept = ok_then (keeps_built_in owner s line b xs) tt _ kept

-- ---- calls of the user's tasks and functions

pub named_none : (outline : Outline) (owner : Body) (s : Stand) (line : ℕ) (means : Meaning) (found : Option Routine) (xs : List Argument) → found ≡ None → call_named outline owner s line means found xs ≡ Err (record { code = 32; line = line })
unfolding refuse
named_none outline owner s line means found xs is = ap (λ (o : Option Routine). call_named outline owner s line means o xs) is

pub named_refused : (outline : Outline) (owner : Body) (s : Stand) (line : ℕ) (means : Meaning) (found : Option Routine) (r : Routine) (xs : List Argument) (x : FrontError) → found ≡ Some r → Err x ≡ answered (keeps_user outline owner s line r xs)
    → Answers (call_named outline owner s line means found xs) (Err x)
named_refused outline owner s line means found r xs x is a =
    along (call_named outline owner s line means found xs) (call_named outline owner s line means (Some r) xs) (Err x) (ap (λ (o : Option Routine). call_named outline owner s line means o xs) is)
    (passed_on (keeps_user outline owner s line r xs) _ x (answered_err (keeps_user outline owner s line r xs) x (sym a)))

pub named_kept : (outline : Outline) (owner : Body) (s : Stand) (line : ℕ) (means : Meaning) (found : Option Routine) (r : Routine) (xs : List Argument) → found ≡ Some r → Ok tt ≡ answered (keeps_user outline owner s line r xs)
    → call_named outline owner s line means found xs ≡ Ok (user_head means (number_of_routine means) r.gives xs)
named_kept outline owner s line means found r xs is a =
    ap (λ (o : Option Routine). call_named outline owner s line means o xs) is
    ∙ ok_then (keeps_user outline owner s line r xs) tt _ (answered_ok (keeps_user outline owner s line r xs) tt (sym a))

-- ---- the length of a string

pub length_wrong : (line : ℕ) (x : TypedExpr) (xs : List Argument) → is_len xs ≡ false → called_length line x xs ≡ Err (record { code = 33; line = line })
length_wrong line x xs is = refused_by line 33 (not (is_len xs)) _ (ap not is)

pub length_right : (line : ℕ) (x : TypedExpr) (xs : List Argument) → is_len xs ≡ true → called_length line x xs ≡ Ok (integer_value (e.BuiltIn f.Length (x ∷ []) None))
length_right line x xs is = passed_by line 33 (not (is_len xs)) _ (ap not is)
