-- What is wanted place by place.
use Rattle.std.proofs.Common.{◌≡◌, ℕ, ◌+◌, ◌<◌, ◌≤◌, Bool, true, false, List, [], ◌∷◌, length, get_or, drop, map, Option, Some, None, refl, sym, ap, ◌∙◌, inl, inr, arith}
use Rattle.std.specs.Prelude.{◌&&◌, if◌then◌else◌, option_map, slice_get}
use Rattle.std.proofs.Math.ListN.{drop_of_length-le}
use Rattle.std.proofs.lemmas.List.{at_drop_more, at_drop_all}
use Rattle.std.proofs.lemmas.Option.{slice_get_cases, slice_get_within, slice_get_read, get_or_from_slice_get, slice_get-map}
use Rattle.vera_ast.specs.declared.typed.types.ValueType.{ValueType}
use Rattle.typing_rules.specs.Arguments.{meets, all_meet, is_settable, all_settable, suits, type_of, all_suit}
use Rattle.typing_rules.specs.Signatures.{Wants, next_of, behind, next_want, after_next, wants_by}
use Rattle.vera_calls.specs.Wanting.{wants_from}
use Rattle.typing_rules.specs.declared.head.Argument.{Argument}
use Rattle.typing_rules.specs.declared.names.Expected.{Expected}
use Rattle.typing_rules.specs.declared.words.Want.{Want}
use Rattle.typing_rules.specs.declared.words.Want.TheVariants as w

-- ---- one place further

drop_next : (xs : List Want) (i : ℕ) → behind (drop i xs) ≡ drop (i + 1) xs
drop_next xs i = elim ((slice_get_cases xs i).1) [
  | inl found ↦ at_drop_more behind xs i found.0 found.1
  | inr past ↦ at_drop_all behind xs i past.0 ∙ sym (drop_of_length-le xs (let far : length xs ≤ i + 1 = let near = past.0 in omega arith in far))
]

pub after_from : (wants : Wants) (i : ℕ) → after_next (wants_from wants i) ≡ wants_from wants (i + 1)
after_from wants i = ap (λ (first : List Want). record { first = first; more = wants.more }) (drop_next wants.first i)

-- ---- what is wanted at a place

pub next_some : (xs : List Want) (more : Option Want) (i : ℕ) (want : Want) → slice_get xs i ≡ Some want → next_of (drop i xs) more ≡ want
next_some xs more i want e =
    at_drop_more (λ (rest : List Want). next_of rest more) xs i want (slice_get_within xs i want e) ∙ get_or_from_slice_get xs i want want e

none_past : {A : Type 0} (xs : List A) (i : ℕ) → slice_get xs i ≡ None → length xs ≤ i
none_past xs i e = elim ((slice_get_cases xs i).1) [
  | inl found ↦ absurd (let there = found.2 in cc)
  | inr past ↦ past.0
]

pub next_none : (xs : List Want) (more : Option Want) (i : ℕ) → slice_get xs i ≡ None → next_of (drop i xs) more ≡ next_of [] more
next_none xs more i e = at_drop_all (λ (rest : List Want). next_of rest more) xs i (none_past xs i e)

abbrev taken : Expected → Want
taken p = if p.is_var then w.Variable else w.Value

pub parameter_some : (ps : List Expected) (i : ℕ) (p : Expected) → i < length ps → p ≡ get_or ps i p → next_want (wants_from (wants_by ps) i) ≡ (if p.is_var then w.Variable else w.Value)
parameter_some ps i p lt at = next_some (map taken ps) None i (taken p) (slice_get-map taken ps i ∙ ap (option_map taken) (slice_get_read ps (length ps) i p refl lt at))

pub parameter_none : (ps : List Expected) (i : ℕ) → slice_get ps i ≡ None → next_want (wants_from (wants_by ps) i) ≡ w.Value
parameter_none ps i e = next_none (map taken ps) None i (slice_get-map taken ps i ∙ ap (option_map taken) e)

-- ---- rules over all arguments

pub meet_next : (wants : Wants) (xs : List Argument) (i : ℕ) (x : Argument) → i < length xs → x ≡ get_or xs i x
    → all_meet (wants_from wants i) (drop i xs) ≡ (meets (next_want (wants_from wants i)) x && all_meet (wants_from wants (i + 1)) (drop (i + 1) xs))
unfolding all_meet
meet_next wants xs i x lt at =
    at_drop_more (λ (rest : List Argument). all_meet (wants_from wants i) rest) xs i x lt
    ∙ ap (λ (y : Argument). meets (next_want (wants_from wants i)) y && all_meet (after_next (wants_from wants i)) (drop (i + 1) xs)) (sym at)
    ∙ ap (λ (after : Wants). meets (next_want (wants_from wants i)) x && all_meet after (drop (i + 1) xs)) (after_from wants i)

pub meet_stops : (wants : Wants) (xs : List Argument) (i : ℕ) (x : Argument) (want : Want) (met : Bool) → i < length xs → x ≡ get_or xs i x
    → want ≡ next_want (wants_from wants i) → met ≡ meets want x → met ≡ false → all_meet (wants_from wants i) (drop i xs) ≡ all_meet wants xs → false ≡ all_meet wants xs
meet_stops wants xs i x want met lt at next is fails h =
    let here : meets (next_want (wants_from wants i)) x ≡ false = ap (λ (w : Want). meets w x) (sym next) ∙ sym is ∙ fails in
    sym (ap (λ (b : Bool). b && all_meet (wants_from wants (i + 1)) (drop (i + 1) xs)) here) ∙ sym (meet_next wants xs i x lt at) ∙ h

pub meet_goes : (wants : Wants) (xs : List Argument) (i : ℕ) (x : Argument) (want : Want) (met : Bool) → i < length xs → x ≡ get_or xs i x
    → want ≡ next_want (wants_from wants i) → met ≡ meets want x → met ≡ true → all_meet (wants_from wants i) (drop i xs) ≡ all_meet wants xs
    → all_meet (wants_from wants (i + 1)) (drop (i + 1) xs) ≡ all_meet wants xs
meet_goes wants xs i x want met lt at next is holds h =
    let here : meets (next_want (wants_from wants i)) x ≡ true = ap (λ (w : Want). meets w x) (sym next) ∙ sym is ∙ holds in
    sym (ap (λ (b : Bool). b && all_meet (wants_from wants (i + 1)) (drop (i + 1) xs)) here) ∙ sym (meet_next wants xs i x lt at) ∙ h

pub meet_none : (wants : Wants) (xs : List Argument) (i : ℕ) → length xs ≤ i → all_meet (wants_from wants i) (drop i xs) ≡ true
unfolding all_meet
meet_none wants xs i le = at_drop_all (λ (rest : List Argument). all_meet (wants_from wants i) rest) xs i le

pub settable_next : (wants : Wants) (xs : List Argument) (i : ℕ) (x : Argument) → i < length xs → x ≡ get_or xs i x
    → all_settable (wants_from wants i) (drop i xs) ≡ (is_settable (next_want (wants_from wants i)) x && all_settable (wants_from wants (i + 1)) (drop (i + 1) xs))
unfolding all_settable
settable_next wants xs i x lt at =
    at_drop_more (λ (rest : List Argument). all_settable (wants_from wants i) rest) xs i x lt
    ∙ ap (λ (y : Argument). is_settable (next_want (wants_from wants i)) y && all_settable (after_next (wants_from wants i)) (drop (i + 1) xs)) (sym at)
    ∙ ap (λ (after : Wants). is_settable (next_want (wants_from wants i)) x && all_settable after (drop (i + 1) xs)) (after_from wants i)

pub settable_stops : (wants : Wants) (xs : List Argument) (i : ℕ) (x : Argument) (want : Want) (met : Bool) → i < length xs → x ≡ get_or xs i x
    → want ≡ next_want (wants_from wants i) → met ≡ is_settable want x → met ≡ false → all_settable (wants_from wants i) (drop i xs) ≡ all_settable wants xs → false ≡ all_settable wants xs
settable_stops wants xs i x want met lt at next is fails h =
    let here : is_settable (next_want (wants_from wants i)) x ≡ false = ap (λ (w : Want). is_settable w x) (sym next) ∙ sym is ∙ fails in
    sym (ap (λ (b : Bool). b && all_settable (wants_from wants (i + 1)) (drop (i + 1) xs)) here) ∙ sym (settable_next wants xs i x lt at) ∙ h

pub settable_goes : (wants : Wants) (xs : List Argument) (i : ℕ) (x : Argument) (want : Want) (met : Bool) → i < length xs → x ≡ get_or xs i x
    → want ≡ next_want (wants_from wants i) → met ≡ is_settable want x → met ≡ true → all_settable (wants_from wants i) (drop i xs) ≡ all_settable wants xs
    → all_settable (wants_from wants (i + 1)) (drop (i + 1) xs) ≡ all_settable wants xs
settable_goes wants xs i x want met lt at next is holds h =
    let here : is_settable (next_want (wants_from wants i)) x ≡ true = ap (λ (w : Want). is_settable w x) (sym next) ∙ sym is ∙ holds in
    sym (ap (λ (b : Bool). b && all_settable (wants_from wants (i + 1)) (drop (i + 1) xs)) here) ∙ sym (settable_next wants xs i x lt at) ∙ h

pub settable_none : (wants : Wants) (xs : List Argument) (i : ℕ) → length xs ≤ i → all_settable (wants_from wants i) (drop i xs) ≡ true
unfolding all_settable
settable_none wants xs i le = at_drop_all (λ (rest : List Argument). all_settable (wants_from wants i) rest) xs i le

-- ---- the arguments of a user's task or function, with its parameters

suit_next : (parents : List (Option ℕ)) (ps : List Expected) (xs : List Argument) (i : ℕ) (p : Expected) (x : Argument) → i < length ps → p ≡ get_or ps i p → i < length xs → x ≡ get_or xs i x
    → all_suit parents (drop i ps) (drop i xs) ≡ (suits parents p (type_of x) && all_suit parents (drop (i + 1) ps) (drop (i + 1) xs))
unfolding all_suit
suit_next parents ps xs i p x within is lt at =
    at_drop_more (λ (rest : List Expected). all_suit parents rest (drop i xs)) ps i p within
    ∙ ap (λ (q : Expected). all_suit parents (q ∷ drop (i + 1) ps) (drop i xs)) (sym is)
    ∙ at_drop_more (λ (rest : List Argument). all_suit parents (p ∷ drop (i + 1) ps) rest) xs i x lt
    ∙ ap (λ (y : Argument). suits parents p (type_of y) && all_suit parents (drop (i + 1) ps) (drop (i + 1) xs)) (sym at)

suit_here : (parents : List (Option ℕ)) (p : Expected) (x : Argument) (of : Option ValueType) (suit b : Bool) → of ≡ type_of x → suit ≡ suits parents p of → suit ≡ b → suits parents p (type_of x) ≡ b
suit_here parents p x of suit b typed is e = ap (λ (o : Option ValueType). suits parents p o) (sym typed) ∙ sym is ∙ e

pub suit_stops : (parents : List (Option ℕ)) (ps : List Expected) (xs : List Argument) (i : ℕ) (p : Expected) (x : Argument) (of : Option ValueType) (suit : Bool) → i < length ps → p ≡ get_or ps i p → i < length xs → x ≡ get_or xs i x
    → of ≡ type_of x → suit ≡ suits parents p of → suit ≡ false → all_suit parents (drop i ps) (drop i xs) ≡ all_suit parents ps xs → false ≡ all_suit parents ps xs
suit_stops parents ps xs i p x of suit within first lt at typed is fails h =
    sym (ap (λ (b : Bool). b && all_suit parents (drop (i + 1) ps) (drop (i + 1) xs)) (suit_here parents p x of suit false typed is fails)) ∙ sym (suit_next parents ps xs i p x within first lt at) ∙ h

pub suit_goes : (parents : List (Option ℕ)) (ps : List Expected) (xs : List Argument) (i : ℕ) (p : Expected) (x : Argument) (of : Option ValueType) (suit : Bool) → i < length ps → p ≡ get_or ps i p → i < length xs → x ≡ get_or xs i x
    → of ≡ type_of x → suit ≡ suits parents p of → suit ≡ true → all_suit parents (drop i ps) (drop i xs) ≡ all_suit parents ps xs
    → all_suit parents (drop (i + 1) ps) (drop (i + 1) xs) ≡ all_suit parents ps xs
suit_goes parents ps xs i p x of suit within first lt at typed is holds h =
    sym (ap (λ (b : Bool). b && all_suit parents (drop (i + 1) ps) (drop (i + 1) xs)) (suit_here parents p x of suit true typed is holds)) ∙ sym (suit_next parents ps xs i p x within first lt at) ∙ h

nothing_left : (parents : List (Option ℕ)) (ps : List Expected) → all_suit parents ps [] ≡ true
unfolding all_suit
nothing_left parents [] = refl
nothing_left parents (p ∷ ps) = refl

pub suit_none : (parents : List (Option ℕ)) (ps : List Expected) (xs : List Argument) (i : ℕ) → length xs ≤ i → all_suit parents (drop i ps) (drop i xs) ≡ true
suit_none parents ps xs i le = at_drop_all (λ (rest : List Argument). all_suit parents (drop i ps) rest) xs i le ∙ nothing_left parents (drop i ps)

pub suit_past : (parents : List (Option ℕ)) (ps : List Expected) (xs : List Argument) (i : ℕ) → length ps ≤ i → all_suit parents (drop i ps) (drop i xs) ≡ all_suit parents ps xs → true ≡ all_suit parents ps xs
unfolding all_suit
suit_past parents ps xs i le h = sym (at_drop_all (λ (rest : List Expected). all_suit parents rest (drop i xs)) ps i le) ∙ h
