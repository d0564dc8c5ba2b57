-- No two output signals of a typed tree have one name.
use Rattle.std.proofs.Common.{◌≡◌, refl, sym, ap, subst, ◌∙◌, ℕ, zero, suc, ◌+◌, Bool, true, false, List, [], ◌∷◌, ◌++◌, Some, Ok, Err}
use Rattle.std.specs.Prelude.{slice_get, ◌||◌}
use Rattle.std.specs.Str.{bytes_eq}
use Rattle.std.proofs.lemmas.List.{append_assoc, append-nil}
use Rattle.std.proofs.lemmas.Slice.Eq.{bytes_eq-Decides}
use Rattle.vera_ast.specs.declared.tree.interfaces.Direction.TheVariants.{Output}
use Rattle.vera_ast.specs.declared.tree.interfaces.Signal.{Signal}
use Rattle.vera_ast.specs.declared.tree.items.Item.{Item}
use Rattle.vera_ast.specs.declared.tree.items.Item.TheVariants as item
use Rattle.typing_rules.specs.Checked.{Checked, keeps, refuse}
use Rattle.typing_rules.specs.Declarations.{Part, walk_parts, name_parts, signal_parts, is_second_output, item_parts, parts_behind, declarations}
use Rattle.typing_rules.specs.FileNames.{file_names, signals_of, signals_in, output_name, output_names}
use Rattle.typing_rules.specs.Scopes.{Name, Scopes, is_among}
use Rattle.typing_laws.proofs.Binds.{bound}

-- ---- the parts of a walk that passes

abbrev Passed : {A : Type 0} → Checked A → Type 0
Passed (Ok a) = Unit {0}
Passed (Err r) = ⊥

abbrev pub AllPass : List Part → Type 0
AllPass [] = Unit {0}
AllPass (p ∷ parts) = Passed p.check × AllPass parts

passed_is : {A : Type 0} (m : Checked A) (a : A) → m ≡ Ok a → Passed m
passed_is (Ok b) a e = tt
passed_is (Err r) a e = absurd cc

all_pass : (n : ℕ) (parts : List Part) (u : Unit {0}) → walk_parts n parts ≡ Ok u → AllPass parts
unfolding walk_parts
all_pass n [] u e = tt
all_pass n (p ∷ parts) u e =
    let a = bound p.check _ u e in
    let b = bound _ _ u a.rest in
    (passed_is p.check a.value a.first, all_pass (n + p.names) parts u b.rest)

pass_left : (xs ys : List Part) → AllPass (xs ++ ys) → AllPass xs
pass_left [] ys h = tt
pass_left (x ∷ xs) ys h = (h.0, pass_left xs ys h.1)

pass_right : (xs ys : List Part) → AllPass (xs ++ ys) → AllPass ys
pass_right [] ys h = h
pass_right (x ∷ xs) ys h = pass_right xs ys h.1

-- ---- rules that a signal keeps

or_false : (a b : Bool) → (a || b) ≡ false → (a ≡ false) × (b ≡ false)
or_false true b e = absurd cc
or_false false b e = (refl, e)

first_kept : (line c1 c2 : ℕ) (b1 b2 : Bool) → Passed (keeps line ((c1, b1) ∷ (c2, b2) ∷ [])) → b1 ≡ false
unfolding keeps refuse
first_kept line c1 c2 true b2 h = absurd h
first_kept line c1 c2 false b2 h = refl

-- each output has another name than the outputs before it
abbrev pub Fresh : List Signal → List Signal → Type 0
Fresh before [] = Unit {0}
Fresh before (s ∷ more) = (is_second_output before s ≡ false) × Fresh (before ++ s ∷ []) more

signals_fresh : (scopes : Scopes) (before : List Signal) (names : List Name) (ss : List Signal) → AllPass (signal_parts scopes before names ss) → Fresh before ss
unfolding signal_parts
signals_fresh scopes before names [] h = tt
signals_fresh scopes before names (s ∷ more) h =
    let kept = first_kept s.line _ _ (is_among names s.name || is_second_output before s) _ h.1.0 in
    ((or_false (is_among names s.name) (is_second_output before s) kept).1, signals_fresh scopes (before ++ s ∷ []) (s.name ∷ names) more h.1.1)

fresh_append : (before xs ys : List Signal) → Fresh before xs → Fresh (before ++ xs) ys → Fresh before (xs ++ ys)
fresh_append before [] ys f g = subst (λ (b : List Signal). Fresh b ys) (append-nil before) g
fresh_append before (x ∷ xs) ys f g =
    let e : before ++ (x ∷ xs) ≡ (before ++ x ∷ []) ++ xs = sym (append_assoc before (x ∷ []) xs) in
    (f.0, fresh_append (before ++ x ∷ []) xs ys f.1 (subst (λ (b : List Signal). Fresh b ys) e g))

in_append : (xs ys : List Item) → signals_in (xs ++ ys) ≡ signals_in xs ++ signals_in ys
unfolding signals_in
in_append [] ys = refl
in_append (i ∷ xs) ys = ap (λ (all : List Signal). signals_of i ++ all) (in_append xs ys) ∙ sym (append_assoc (signals_of i) (signals_in xs) (signals_in ys))

in_one : (i : Item) → signals_in (i ∷ []) ≡ signals_of i
unfolding signals_in
in_one i = append-nil (signals_of i)

with_one : (before : List Item) (i : Item) → signals_in (before ++ i ∷ []) ≡ signals_in before ++ signals_of i
with_one before i = in_append before (i ∷ []) ∙ ap (λ (all : List Signal). signals_in before ++ all) (in_one i)

item_fresh : (scopes : Scopes) (before : List Item) (i : Item) → AllPass (item_parts scopes before i) → Fresh (signals_in before) (signals_of i)
item_fresh scopes before (item.Enumeration x) h = tt
item_fresh scopes before (item.Class x) h = tt
item_fresh scopes before (item.Interface x) h =
    signals_fresh scopes (signals_in before) [] x.signals (pass_right (name_parts x.line (file_names before) (x.name ∷ [])) (signal_parts scopes (signals_in before) [] x.signals) h)
item_fresh scopes before (item.Group x) h = tt
item_fresh scopes before (item.Task x) h = tt
item_fresh scopes before (item.Function x) h = tt
item_fresh scopes before (item.Program x) h = tt

-- the signals of no item, and of an item in front of others
no_items : (before : List Signal) → Fresh before (signals_in [])
unfolding signals_in
no_items before = tt

in_front : (before : List Signal) (i : Item) (items : List Item) → Fresh before (signals_of i) → Fresh (before ++ signals_of i) (signals_in items) → Fresh before (signals_in (i ∷ items))
unfolding signals_in
in_front before i items f g = fresh_append before (signals_of i) (signals_in items) f g

items_fresh : (scopes : Scopes) (before items : List Item) → AllPass (parts_behind scopes before items) → Fresh (signals_in before) (signals_in items)
unfolding parts_behind
items_fresh scopes before [] h = no_items (signals_in before)
items_fresh scopes before (i ∷ items) h =
    let parts = item_parts scopes before i in
    let more = parts_behind scopes (before ++ i ∷ []) items in
    let here = item_fresh scopes before i (pass_left parts more h) in
    let rest = items_fresh scopes (before ++ i ∷ []) items (pass_right parts more h) in
    in_front (signals_in before) i items here (subst (λ (b : List Signal). Fresh b (signals_in items)) (with_one before i) rest)

no_signals : (items : List Signal) → Fresh (signals_in []) items → Fresh [] items
unfolding signals_in
no_signals items f = f

pub source_fresh : (scopes : Scopes) (items : List Item) (u : Unit {0}) → declarations scopes items ≡ Ok u → Fresh [] (signals_in items)
unfolding declarations
source_fresh scopes items u e = no_signals (signals_in items) (items_fresh scopes [] items (all_pass 0 (parts_behind scopes [] items) u e))

-- ---- outputs of one name are one

among_append : (xs ys : List Name) (w : Name) → is_among (xs ++ ys) w ≡ (is_among xs w || is_among ys w)
unfolding is_among
among_append [] ys w = refl
among_append (x ∷ xs) ys w = ap (λ (b : Bool). bytes_eq x w || b) (among_append xs ys w) ∙ or_assoc (bytes_eq x w) (is_among xs w) (is_among ys w)
  where
    or_assoc : (a b c : Bool) → (a || (b || c)) ≡ ((a || b) || c)
    or_assoc true b c = refl
    or_assoc false b c = refl

outputs_append : (xs ys : List Signal) → output_names (xs ++ ys) ≡ output_names xs ++ output_names ys
unfolding output_names
outputs_append [] ys = refl
outputs_append (s ∷ xs) ys = ap (λ (all : List Name). output_name s.direction s.name ++ all) (outputs_append xs ys) ∙ sym (append_assoc (output_name s.direction s.name) (output_names xs) (output_names ys))

abbrev IsNew : List Signal → Name → Type 0
IsNew before w = is_among (output_names before) w ≡ false

-- a name is new behind fewer signals too
new_before : (before : List Signal) (s : Signal) (w : Name) → IsNew (before ++ s ∷ []) w → IsNew before w
new_before before s w e =
    let split : is_among (output_names before ++ output_names (s ∷ [])) w ≡ false = subst (λ (all : List Name). is_among all w ≡ false) (outputs_append before (s ∷ [])) e in
    (or_false (is_among (output_names before) w) (is_among (output_names (s ∷ [])) w) (sym (among_append (output_names before) (output_names (s ∷ [])) w) ∙ split)).0

-- an output's own name is not new behind it
own_name : (s : Signal) (w : Name) → s.direction ≡ Output → s.name ≡ w → is_among (output_names (s ∷ [])) w ≡ true
unfolding output_names is_among
own_name s w d e = rw (d, e, (bytes_eq-Decides w w).1 refl) refl

not_new : (before : List Signal) (s : Signal) (w : Name) → IsNew (before ++ s ∷ []) w → s.direction ≡ Output → s.name ≡ w → ⊥
not_new before s w e d n =
    let split : is_among (output_names before ++ output_names (s ∷ [])) w ≡ false = subst (λ (all : List Name). is_among all w ≡ false) (outputs_append before (s ∷ [])) e in
    let none = (or_false (is_among (output_names before) w) (is_among (output_names (s ∷ [])) w) (sym (among_append (output_names before) (output_names (s ∷ [])) w) ∙ split)).1 in
    let there = own_name s w d n in
    cc

second_false : (before : List Signal) (s : Signal) → s.direction ≡ Output → is_second_output before s ≡ false → IsNew before s.name
second_false before s d e = let f : is_among (output_names before) s.name ≡ false = rw d at e in f

-- an output's name is new behind all signals before
fresh_new : (before ss : List Signal) (m : ℕ) (s : Signal) → Fresh before ss → slice_get ss m ≡ Some s → s.direction ≡ Output → IsNew before s.name
fresh_new before [] m s f e d = absurd cc
fresh_new before (x ∷ ss) zero s f e d = let same : x ≡ s = cc in second_false before s d (subst (λ (s : Signal). is_second_output before s ≡ false) same f.0)
fresh_new before (x ∷ ss) (suc m) s f e d = new_before before x s.name (fresh_new (before ++ x ∷ []) ss m s f.1 e d)

pub one_output : (before ss : List Signal) (n m : ℕ) (a b : Signal) → Fresh before ss → slice_get ss n ≡ Some a → slice_get ss m ≡ Some b → a.direction ≡ Output → b.direction ≡ Output → a.name ≡ b.name → n ≡ m
one_output before [] n m a b f e g d d' w = absurd cc
one_output before (x ∷ ss) zero zero a b f e g d d' w = refl
one_output before (x ∷ ss) zero (suc m) a b f e g d d' w =
    let same : x ≡ a = cc in
    absurd (not_new before x b.name (fresh_new (before ++ x ∷ []) ss m b f.1 g d') (ap (λ (s : Signal). s.direction) same ∙ d) (ap (λ (s : Signal). s.name) same ∙ w))
one_output before (x ∷ ss) (suc n) zero a b f e g d d' w =
    let same : x ≡ b = cc in
    absurd (not_new before x a.name (fresh_new (before ++ x ∷ []) ss n a f.1 e d) (ap (λ (s : Signal). s.direction) same ∙ d') (ap (λ (s : Signal). s.name) same ∙ sym w))
one_output before (x ∷ ss) (suc n) (suc m) a b f e g d d' w = ap suc (one_output (before ++ x ∷ []) ss n m a b f.1 e g d d' w)
