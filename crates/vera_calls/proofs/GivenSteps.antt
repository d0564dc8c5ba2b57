-- What is read as an argument, as the code takes it.
use Rattle.std.proofs.Common.{◌≡◌, ℕ, Bool, true, false, refl, sym, ap, ◌∙◌}
use Rattle.std.specs.Prelude.{if◌then◌else◌, Ok, Err}
use Rattle.vera_ast.specs.declared.refusal.FrontError.{FrontError}
use Rattle.vera_names.proofs.Answering.{ok_then, passed_on}
use Rattle.typing_rules.specs.Answers.{Answers}
use Rattle.typing_rules.specs.Checked.{◌>>=◌}
use Rattle.typing_rules.specs.Heads.{typed, read, whole_type, value_of, value_argument, wants_variable, argument}
use Rattle.typing_rules.specs.declared.head.Argument.{Argument}
use Rattle.typing_rules.specs.declared.head.Argument.TheVariants as a
use Rattle.typing_rules.specs.declared.head.Head.{Head}
use Rattle.typing_rules.specs.declared.head.Head.TheVariants as h
use Rattle.typing_rules.specs.declared.head.Typed.{Typed}
use Rattle.typing_rules.specs.declared.head.Whole.{Whole}
use Rattle.typing_rules.specs.declared.words.Mode.{Mode}
use Rattle.typing_rules.specs.declared.words.Want.{Want}

pub value_wrong : (line : ℕ) (head : Head) (x : FrontError) → Answers (value_of line head) (Err x) → Answers (value_argument line head) (Err x)
value_wrong line head x wrong = passed_on (value_of line head) _ x wrong

pub value_right : (line : ℕ) (head : Head) (v : Typed) → value_of line head ≡ Ok v → value_argument line head ≡ Ok (a.Value v)
value_right line head v is = ok_then (value_of line head) v (λ (w : Typed). Ok (a.Value w)) is

-- a variable, field or element: as it is where a variable is wanted, and otherwise read
whole_by : (b : Bool) (line : ℕ) (x : Whole) → (if b then Ok (a.Whole x) else value_argument line (h.Whole x)) ≡ Ok (if b then a.Whole x else a.Value (typed (read x) (whole_type x)))
unfolding value_of ◌>>=◌
whole_by true line x = refl
whole_by false line x = refl

pub whole_given : (takes : Mode → Bool) (want : Want) (line : ℕ) (head : Head) (x : Whole) (given : Argument) → head ≡ h.Whole x → given ≡ (if wants_variable want then a.Whole x else a.Value (typed (read x) (whole_type x)))
    → argument takes want line head ≡ Ok given
unfolding argument
whole_given takes want line head x given is e =
    ap (λ (o : Head). argument takes want line o) is ∙ whole_by (wants_variable want) line x ∙ ap (λ (y : Argument). Ok y) (sym e)
