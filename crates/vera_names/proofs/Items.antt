-- Lists that are gone through and made part by part: what is done, and what is left.
use Rattle.std.proofs.Common.{◌≡◌, ℕ, ◌+◌, ◌<◌, ◌≤◌, List, [], ◌∷◌, ◌++◌, length, get_or, drop, refl, sym, ap, ◌∙◌, arith}
use Rattle.std.specs.Prelude.{Ok, Err}
use Rattle.std.proofs.lemmas.List.{append-nil, append_assoc, drop_more, at_drop_more, at_drop_all}
use Rattle.vera_ast.specs.declared.refusal.FrontError.{FrontError}
use Rattle.vera_ast.specs.declared.refusal.FrontError.TheVariants.{Refused, NoMemory}
use Rattle.typing_rules.specs.Answers.{Answers}
use Rattle.typing_rules.specs.Checked.{Checked, ◌>>=◌, each}
use Rattle.vera_names.specs.Lists.{behind}

-- the part at a place, and those behind it
pub items_from : {X : Type 0} (xs : List X) (i : ℕ) (x : X) → i < length xs → x ≡ get_or xs i x → drop i xs ≡ x ∷ drop (i + 1) xs
items_from xs i x lt at = drop_more xs i x lt ∙ ap (λ y. y ∷ drop (i + 1) xs) (sym at)

-- ---- results so far, and those of the parts that are left

pub behind_none : {B : Type 0} (m : Checked (List B)) → behind [] m ≡ m
behind_none (Ok more) = refl
behind_none (Err r) = refl

pub behind_all : {B : Type 0} (done : List B) → behind done (Ok []) ≡ Ok done
behind_all done = ap Ok (append-nil done)

pub one_more : {B : Type 0} (done : List B) (b : B) (p : Checked (List B)) → behind done (p >>= (λ bs. Ok (b ∷ bs))) ≡ behind (done ++ b ∷ []) p
unfolding ◌>>=◌
one_more {B = B} done b (Ok bs) = ap (λ (xs : List B). Ok xs) (sym (append_assoc done (b ∷ []) bs))
one_more done b (Err r) = refl

-- ---- each of a list

-- the next part gives something
pub each_goes : {A B : Type 0} (f : A → Checked B) (xs : List A) (i : ℕ) (x : A) (b : B) (done more : List B) (whole : Checked (List B))
    → i < length xs → x ≡ get_or xs i x → f x ≡ Ok b → more ≡ done ++ b ∷ [] → behind done (each f (drop i xs)) ≡ whole → behind more (each f (drop (i + 1) xs)) ≡ whole
unfolding each ◌>>=◌
each_goes {A = A} {B = B} f xs i x b done more whole lt at e is h =
    ap (λ (ds : List B). behind ds (each f (drop (i + 1) xs))) is
    ∙ sym (one_more done b (each f (drop (i + 1) xs)))
    ∙ ap (λ (q : Checked B). behind done (q >>= (λ c. each f (drop (i + 1) xs) >>= (λ bs. Ok (c ∷ bs))))) (sym e ∙ ap (λ (y : A). f y) at)
    ∙ sym (at_drop_more (λ (ys : List A). behind done (each f ys)) xs i x lt)
    ∙ h

-- the next part is refused
pub each_stops : {A B : Type 0} (f : A → Checked B) (xs : List A) (i : ℕ) (x : A) (done : List B) (whole : Checked (List B)) (e : FrontError)
    → i < length xs → x ≡ get_or xs i x → Answers (f x) (Err e) → behind done (each f (drop i xs)) ≡ whole → Answers whole (Err e)
unfolding each ◌>>=◌
each_stops {A = A} {B = B} f xs i x done whole (Refused r) lt at e h =
    sym h ∙ at_drop_more (λ (ys : List A). behind done (each f ys)) xs i x lt
    ∙ ap (λ (q : Checked B). behind done (q >>= (λ c. each f (drop (i + 1) xs) >>= (λ bs. Ok (c ∷ bs))))) (sym (ap (λ (y : A). f y) at) ∙ e)
each_stops f xs i x done whole NoMemory lt at e h = tt

-- no part is left
pub each_ends : {A B : Type 0} (f : A → Checked B) (xs : List A) (i : ℕ) (done : List B) (whole : Checked (List B))
    → length xs ≤ i → behind done (each f (drop i xs)) ≡ whole → whole ≡ Ok done
unfolding each
each_ends {A = A} {B = B} f xs i done whole le h =
    sym h ∙ at_drop_all (λ (ys : List A). behind done (each f ys)) xs i le ∙ ap (λ (bs : List B). Ok bs) (append-nil done)

-- ---- a list whose parts are put one behind the other

-- the next part
pub part_goes : {X D : Type 0} (f : List X → List D) (xs : List X) (i : ℕ) (x : X) (part done more whole : List D)
    → f (get_or xs i x ∷ drop (i + 1) xs) ≡ part ++ f (drop (i + 1) xs) → i < length xs → more ≡ done ++ part → done ++ f (drop i xs) ≡ whole → more ++ f (drop (i + 1) xs) ≡ whole
part_goes {X = X} {D = D} f xs i x part done more whole first lt is h =
    ap (λ (ds : List D). ds ++ f (drop (i + 1) xs)) is
    ∙ append_assoc done part (f (drop (i + 1) xs))
    ∙ ap (λ (ds : List D). done ++ ds) (sym first)
    ∙ sym (at_drop_more (λ (ys : List X). done ++ f ys) xs i x lt)
    ∙ h

-- no part is left
pub part_ends : {X D : Type 0} (f : List X → List D) (xs : List X) (i : ℕ) (done whole : List D) → f [] ≡ [] → length xs ≤ i → done ++ f (drop i xs) ≡ whole → done ≡ whole
part_ends {X = X} {D = D} f xs i done whole none le h = sym (append-nil done) ∙ ap (λ (ds : List D). done ++ ds) (sym none) ∙ sym (at_drop_all (λ (ys : List X). done ++ f ys) xs i le) ∙ h

-- ---- each of a list that is taken apart

pub taken_goes : {A B : Type 0} (f : A → Checked B) (items : List A) (x : A) (rest : List A) (b : B) (done more : List B) (whole : Checked (List B))
    → items ≡ x ∷ rest → f x ≡ Ok b → more ≡ done ++ b ∷ [] → behind done (each f items) ≡ whole → behind more (each f rest) ≡ whole
unfolding each ◌>>=◌
taken_goes {A = A} {B = B} f items x rest b done more whole first e is h =
    ap (λ (ds : List B). behind ds (each f rest)) is
    ∙ sym (one_more done b (each f rest))
    ∙ ap (λ (q : Checked B). behind done (q >>= (λ c. each f rest >>= (λ bs. Ok (c ∷ bs))))) (sym e)
    ∙ ap (λ (xs : List A). behind done (each f xs)) (sym first)
    ∙ h

pub taken_stops : {A B : Type 0} (f : A → Checked B) (items : List A) (x : A) (rest : List A) (done : List B) (whole : Checked (List B)) (e : FrontError)
    → items ≡ x ∷ rest → Answers (f x) (Err e) → behind done (each f items) ≡ whole → Answers whole (Err e)
unfolding each ◌>>=◌
taken_stops {A = A} {B = B} f items x rest done whole (Refused r) first e h =
    sym h ∙ ap (λ (xs : List A). behind done (each f xs)) first ∙ ap (λ (q : Checked B). behind done (q >>= (λ c. each f rest >>= (λ bs. Ok (c ∷ bs))))) e
taken_stops f items x rest done whole NoMemory first e h = tt

pub taken_ends : {A B : Type 0} (f : A → Checked B) (items : List A) (done : List B) (whole : Checked (List B)) → length items ≡ 0 → behind done (each f items) ≡ whole → whole ≡ Ok done
unfolding each
taken_ends {B = B} f [] done whole none h = sym h ∙ ap (λ (bs : List B). Ok bs) (append-nil done)
taken_ends f (x ∷ xs) done whole none h = absurd (omega arith)
