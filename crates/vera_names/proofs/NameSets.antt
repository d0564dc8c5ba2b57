-- Names of a scope, in any order.
use Rattle.std.proofs.Common.{◌≡◌, ℕ, ◌+◌, ◌<◌, ◌≤◌, Bool, true, false, cond, List, [], ◌∷◌, ◌++◌, map, length, get_or, drop, Option, Some, None, refl, sym, ap, subst, ◌∙◌, append_assoc}
use Rattle.std.specs.Prelude.{◌||◌, is_some, IfOk, Result, Ok, Err}
use Rattle.std.specs.Str.{bytes_eq}
use Rattle.std.proofs.lemmas.List.{append-nil, drop_all}
use Rattle.four_state.specs.declared.memory.NoMemory.{NoMemory}
use Rattle.vera_ast.specs.declared.tree.declarations.Decl.{Decl}
use Rattle.vera_ast.specs.declared.tree.declarations.Variable.{Variable}
use Rattle.vera_names.proofs.Items.{items_from}
use Rattle.typing_rules.specs.DataTypes.{names_in}
use Rattle.vera_names.specs.Named.{declared_as}
use Rattle.typing_rules.specs.Scopes.{Name, Scope, is_among, meaning_in, later}
use Rattle.vera_names.specs.NameSets.{SameNames, names_behind}
use Rattle.typing_rules.specs.declared.names.Declared.{Declared}
use Rattle.typing_rules.specs.declared.names.Meaning.{Meaning}
use Rattle.typing_rules.specs.declared.names.Meaning.TheVariants.{Later}

-- ---- `||`

or_behind : (b c a : Bool) → (b || (c || a)) ≡ ((b || c) || a)
or_behind true c a = refl
or_behind false c a = refl

or_between : (b c a : Bool) → (b || (c || a)) ≡ ((c || b) || a)
or_between true true a = refl
or_between true false a = refl
or_between false true a = refl
or_between false false a = refl

or_true : (c : Bool) → true ≡ (c || true)
or_true true = refl
or_true false = refl

-- ---- one more name at the end of a scope

only_one : (b : Bool) (m : Meaning) → is_some (cond b (Some m) None) ≡ (b || false)
only_one true m = refl
only_one false m = refl

one_before : (b c : Bool) (m : Meaning) (o more : Option Meaning) → is_some more ≡ (c || is_some o) → is_some (cond b (Some m) more) ≡ (c || is_some (cond b (Some m) o))
one_before true c m o more e = or_true c
one_before false c m o more e = e

pushed : (ds : Scope) (d : Declared) (q : Name) → is_some (meaning_in (ds ++ d ∷ []) q) ≡ (bytes_eq d.name q || is_some (meaning_in ds q))
unfolding meaning_in
pushed [] d q = only_one (bytes_eq d.name q) d.means
pushed (x ∷ ds) d q = one_before (bytes_eq x.name q) (bytes_eq d.name q) x.means (meaning_in ds q) (meaning_in (ds ++ d ∷ []) q) (pushed ds d q)

pub one_more_name : (names : Scope) (name : Name) (r : Result Scope NoMemory) → IfOk r (λ s. s ≡ names ++ declared_as name Later ∷ []) → IfOk r (λ new. (before : List Name) → SameNames before names → SameNames (name ∷ before) new)
unfolding is_among
one_more_name names name (Ok s) e = λ before k. record {
  same = λ q. ap (λ (ds : Scope). is_some (meaning_in ds q)) e ∙ pushed names (declared_as name Later) q ∙ ap (λ (b : Bool). bytes_eq name q || b) (k.same q);
}
one_more_name names name (Err x) e = tt

pub no_names : SameNames [] []
unfolding is_among meaning_in
no_names = record { same = λ q. refl }

pub names_of_none : (s : Scope) → s ≡ [] → SameNames [] s
names_of_none s e = subst (λ (ds : Scope). SameNames [] ds) (sym e) no_names

-- ---- other orders

pub among_both : (xs ys : List Name) (q : Name) → is_among (xs ++ ys) q ≡ (is_among xs q || is_among ys q)
unfolding is_among
among_both [] ys q = refl
among_both (x ∷ xs) ys q = ap (λ (b : Bool). bytes_eq x q || b) (among_both xs ys q) ∙ or_behind (bytes_eq x q) (is_among xs q) (is_among ys q)

among_behind : (ns before : List Name) (q : Name) → is_among (names_behind before ns) q ≡ (is_among ns q || is_among before q)
unfolding is_among
among_behind [] before q = refl
among_behind (n ∷ ns) before q = among_behind ns (n ∷ before) q ∙ or_between (is_among ns q) (bytes_eq n q) (is_among before q)

pub same_order : (some others : List Name) (s : Scope) → SameNames some s → ((q : Name) → is_among some q ≡ is_among others q) → SameNames others s
same_order some others s k e = record { same = λ q. k.same q ∙ e q }

-- names that were put before others one after the other
pub names_put : (before ns : List Name) (s : Scope) → SameNames (names_behind before ns) s → SameNames (ns ++ before) s
names_put before ns s k = same_order (names_behind before ns) (ns ++ before) s k (λ q. among_behind ns before q ∙ sym (among_both ns before q))

-- names behind others
pub or_swap : (a b : Bool) → (a || b) ≡ (b || a)
or_swap true true = refl
or_swap true false = refl
or_swap false true = refl
or_swap false false = refl

pub names_after : (before ns : List Name) (s : Scope) → SameNames (names_behind before ns) s → SameNames (before ++ ns) s
names_after before ns s k =
    same_order (names_behind before ns) (before ++ ns) s k (λ q. among_behind ns before q ∙ or_swap (is_among ns q) (is_among before q) ∙ sym (among_both before ns q))

-- ---- scopes of variables

later_both : (xs ys : List Name) → later (xs ++ ys) ≡ later xs ++ later ys
unfolding later
later_both [] ys = refl
later_both (x ∷ xs) ys = ap (λ (ds : Scope). declared_as x Later ∷ ds) (later_both xs ys)

pub one_later : (entry : Scope) (name : Name) (r : Result Scope NoMemory) → entry ≡ [] → IfOk r (λ s. s ≡ entry ++ declared_as name Later ∷ []) → IfOk r (λ s. s ≡ later (name ∷ []))
unfolding later
one_later entry name (Ok s) e h = h ∙ ap (λ (ds : Scope). ds ++ declared_as name Later ∷ []) e
one_later entry name (Err x) e h = tt

pub later_next : {X : Type 0} (key : X → Name) (scope whole new : Scope) (all : List X) (i : ℕ) (x : X) (name : Name) → i < length all → x ≡ get_or all i x → name ≡ key x
    → scope ++ later (map key (drop i all)) ≡ whole → new ≡ scope ++ declared_as name Later ∷ [] → new ++ later (map key (drop (i + 1) all)) ≡ whole
unfolding later
later_next key scope whole new all i x name lt at named h e =
    ap (λ (s : Scope). s ++ later (map key (drop (i + 1) all))) (e ∙ ap (λ (n : Name). scope ++ declared_as n Later ∷ []) named)
    ∙ append_assoc scope (declared_as (key x) Later ∷ []) (later (map key (drop (i + 1) all)))
    ∙ ap (λ (left : List _). scope ++ later (map key left)) (sym (items_from all i x lt at))
    ∙ h

pub later_end : {X : Type 0} (key : X → Name) (scope whole : Scope) (all : List X) (i : ℕ) → length all ≤ i → scope ++ later (map key (drop i all)) ≡ whole → scope ≡ whole
unfolding later
later_end key scope whole all i end h = sym (append-nil scope) ∙ ap (λ (left : List _). scope ++ later (map key left)) (sym (drop_all i all end)) ∙ h

pub decls_later_next : (scope whole new : Scope) (all : List Decl) (i : ℕ) (d : Decl) (variables : List Variable) → i < length all → d ≡ get_or all i d → variables ≡ d.variables
    → scope ++ later (names_in (drop i all)) ≡ whole → new ≡ scope ++ later (map (λ v. v.name) variables) → new ++ later (names_in (drop (i + 1) all)) ≡ whole
unfolding names_in
decls_later_next scope whole new all i d variables lt at same h e =
    ap (λ (s : Scope). s ++ later (names_in (drop (i + 1) all))) (e ∙ ap (λ (vs : List Variable). scope ++ later (map (λ v. v.name) vs)) same)
    ∙ append_assoc scope (later (map (λ v. v.name) d.variables)) (later (names_in (drop (i + 1) all)))
    ∙ ap (λ (ds : Scope). scope ++ ds) (sym (later_both (map (λ v. v.name) d.variables) (names_in (drop (i + 1) all))))
    ∙ ap (λ (left : List Decl). scope ++ later (names_in left)) (sym (items_from all i d lt at))
    ∙ h

pub decls_later_end : (scope whole : Scope) (all : List Decl) (i : ℕ) → length all ≤ i → scope ++ later (names_in (drop i all)) ≡ whole → scope ≡ whole
unfolding names_in later
decls_later_end scope whole all i end h = sym (append-nil scope) ∙ ap (λ (left : List Decl). scope ++ later (names_in left)) (sym (drop_all i all end)) ∙ h
