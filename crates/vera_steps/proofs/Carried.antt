-- Lists that are made part by part, where what is done is carried along by `with` while the next part is checked.
use Rattle.std.proofs.Common.{◌≡◌, ℕ, ◌+◌, ◌<◌, List, [], ◌∷◌, ◌++◌, length, get_or, drop, ap, ◌∙◌, subst}
use Rattle.std.specs.Prelude.{Result, Ok, Err}
use Rattle.vera_ast.specs.declared.refusal.FrontError.{FrontError}
use Rattle.typing_rules.specs.Answers.{Answers}
use Rattle.typing_rules.specs.Checked.{Checked, each}
use Rattle.vera_names.specs.Lists.{behind}
use Rattle.vera_names.proofs.Items.{each_stops, each_goes, taken_stops, taken_goes}

-- ---- what an answer that is known tells

pub told_refusal : {B : Type 0} (m : Checked B) (r : Result B FrontError) (e : FrontError) → Answers m r → r ≡ Err e → Answers m (Err e)
told_refusal m r e a is = subst (λ x. Answers m x) is a

pub told_part : {B : Type 0} (m : Checked B) (r : Result B FrontError) (b : B) → Answers m r → r ≡ Ok b → m ≡ Ok b
told_part m r b a is = subst (λ x. Answers m x) is a

-- one more at the end of what was carried
one_carried : {B : Type 0} (b : B) (done before more : List B) → before ≡ done → more ≡ before ++ b ∷ [] → more ≡ done ++ b ∷ []
one_carried {B = B} b done before more same is = is ∙ ap (λ (bs : List B). bs ++ b ∷ []) same

-- ---- each of a list

-- the next part is refused
pub carried_stops : {A B : Type 0} (f : A → Checked B) (xs : List A) (i : ℕ) (x : A) (r : Result B FrontError) (done : List B) (whole : Checked (List B)) (e : FrontError)
    → i < length xs → x ≡ get_or xs i x → Answers (f x) r → r ≡ Err e → behind done (each f (drop i xs)) ≡ whole → Answers whole (Err e)
carried_stops f xs i x r done whole e lt at a is h = each_stops f xs i x done whole e lt at (told_refusal (f x) r e a is) h

-- the next part gives something
pub carried_goes : {A B : Type 0} (f : A → Checked B) (xs : List A) (i : ℕ) (x : A) (r : Result B FrontError) (b : B) (done before more : List B) (whole : Checked (List B))
    → i < length xs → x ≡ get_or xs i x → Answers (f x) r → r ≡ Ok b → before ≡ done → more ≡ before ++ b ∷ [] → behind done (each f (drop i xs)) ≡ whole → behind more (each f (drop (i + 1) xs)) ≡ whole
carried_goes f xs i x r b done before more whole lt at a is same longer h = each_goes f xs i x b done more whole lt at (told_part (f x) r b a is) (one_carried b done before more same longer) h

-- ---- each of a list that is taken apart

-- the next part is refused
pub carried_stops_taken : {A B : Type 0} (f : A → Checked B) (items : List A) (x : A) (rest : List A) (r : Result B FrontError) (done : List B) (whole : Checked (List B)) (e : FrontError)
    → items ≡ x ∷ rest → Answers (f x) r → r ≡ Err e → behind done (each f items) ≡ whole → Answers whole (Err e)
carried_stops_taken f items x rest r done whole e first a is h = taken_stops f items x rest done whole e first (told_refusal (f x) r e a is) h

-- the next part gives something
pub carried_goes_taken : {A B : Type 0} (f : A → Checked B) (items : List A) (x : A) (rest : List A) (r : Result B FrontError) (b : B) (done before more : List B) (whole : Checked (List B))
    → items ≡ x ∷ rest → Answers (f x) r → r ≡ Ok b → before ≡ done → more ≡ before ++ b ∷ [] → behind done (each f items) ≡ whole → behind more (each f rest) ≡ whole
carried_goes_taken f items x rest r b done before more whole first a is same longer h = taken_goes f items x rest b done more whole first (told_part (f x) r b a is) (one_carried b done before more same longer) h
