-- A scope's map: what it finds, before and after one more name.
use Rattle.std.proofs.Common.{◌≡◌, ℕ, suc, Bool, true, false, cond, List, [], ◌∷◌, ◌++◌, length, Option, Some, None, refl, sym, ap, subst, ◌∙◌}
use Rattle.std.specs.Prelude.{option_map, is_some}
use Rattle.std.specs.Str.{bytes_eq}
use Rattle.std.specs.Option.{option_or}
use Rattle.std.proofs.lemmas.Slice.Eq.{bytes_eq-Decides}
use Rattle.vera_names.specs.Named.{declared_as, shown_name, shown, place_in, meaning_at, FindsFirst}
use Rattle.typing_rules.specs.Scopes.{Name, Scope, meaning_in}
use Rattle.typing_rules.specs.declared.names.Declared.{Declared}
use Rattle.typing_rules.specs.declared.names.Meaning.{Meaning}
use Rattle.vera_names.specs.declared.scope.Named.{Named}

-- ---- places

behind_first : (b : Bool) (o r : Option ℕ) → cond b (Some 0) (option_map suc (option_or o r)) ≡ option_or (cond b (Some 0) (option_map suc o)) (option_map suc r)
behind_first true o r = refl
behind_first false None r = refl
behind_first false (Some n) r = refl

moved : (b : Bool) (n : ℕ) → option_map suc (cond b (Some n) None) ≡ cond b (Some (suc n)) None
moved true n = refl
moved false n = refl

-- one more name is found where no other one is it
place_push : (ds : Scope) (d : Declared) (q : Name) → place_in (ds ++ d ∷ []) q ≡ option_or (place_in ds q) (cond (bytes_eq d.name q) (Some (length ds)) None)
place_push [] d q = refl
place_push (x ∷ ds) d q =
    ap (λ (o : Option ℕ). cond (bytes_eq x.name q) (Some 0) (option_map suc o)) (place_push ds d q)
    ∙ behind_first (bytes_eq x.name q) (place_in ds q) (cond (bytes_eq d.name q) (Some (length ds)) None)
    ∙ ap (λ (o : Option ℕ). option_or (cond (bytes_eq x.name q) (Some 0) (option_map suc (place_in ds q))) o) (moved (bytes_eq d.name q) (length ds))

or_none : (o : Option ℕ) → option_or o None ≡ o
or_none None = refl
or_none (Some n) = refl

or_some : (o r : Option ℕ) → is_some o ≡ true → option_or o r ≡ o
or_some None r e = cc
or_some (Some n) r e = refl

not_some : (o : Option ℕ) → is_some o ≡ false → o ≡ None
not_some None e = refl
not_some (Some n) e = cc

-- ---- what the map finds after one more name

old_by : (ds : Scope) (name q : Name) (b : Bool) → bytes_eq name q ≡ b → is_some (place_in ds name) ≡ true → place_in ds q ≡ option_or (place_in ds q) (cond b (Some (length ds)) None)
old_by ds name q true e there = sym (or_some _ _ (subst (λ (r : Name). is_some (place_in ds r) ≡ true) ((bytes_eq-Decides name q).0 e) there))
old_by ds name q false e there = sym (or_none _)

-- a name that stands there already
pub known_name : (ds : Scope) (find : Name → Option ℕ) (name : Name) (means : Meaning) → FindsFirst ds find → is_some (find name) ≡ true → FindsFirst (ds ++ declared_as name means ∷ []) find
known_name ds find name means h there = record {
  finds = λ q. h.finds q ∙ old_by ds name q (bytes_eq name q) refl (sym (ap (λ (o : Option ℕ). is_some o) (h.finds name)) ∙ there) ∙ sym (place_push ds (declared_as name means) q);
}

new_by : (ds : Scope) (name q : Name) (b : Bool) → bytes_eq name q ≡ b → place_in ds name ≡ None → cond b (Some (length ds)) (place_in ds q) ≡ option_or (place_in ds q) (cond b (Some (length ds)) None)
new_by ds name q true e none = ap (λ (o : Option ℕ). option_or o (Some (length ds))) (sym (subst (λ (r : Name). place_in ds r ≡ None) ((bytes_eq-Decides name q).0 e) none))
new_by ds name q false e none = sym (or_none _)

-- a name that is new
pub new_name : (ds : Scope) (find new : Name → Option ℕ) (name : Name) (means : Meaning) (n : ℕ) → FindsFirst ds find → is_some (find name) ≡ false → n ≡ length ds
    → ((q : Name) → new q ≡ cond (bytes_eq name q) (Some n) (find q)) → FindsFirst (ds ++ declared_as name means ∷ []) new
new_name ds find new name means n h none at after = record {
  finds = λ q. after q
      ∙ ap (λ (k : ℕ). cond (bytes_eq name q) (Some k) (find q)) at
      ∙ ap (λ (o : Option ℕ). cond (bytes_eq name q) (Some (length ds)) o) (h.finds q)
      ∙ new_by ds name q (bytes_eq name q) refl (sym (h.finds name) ∙ not_some _ none)
      ∙ sym (place_push ds (declared_as name means) q);
}

pub no_names : (find : Name → Option ℕ) → ((q : Name) → find q ≡ None) → FindsFirst [] find
no_names find e = record { finds = e }

-- ---- shown names

pub shown_push : (names : List Named) (n : Named) → shown (names ++ n ∷ []) ≡ shown names ++ shown_name n ∷ []
shown_push [] n = refl
shown_push (x ∷ names) n = ap (λ (ds : Scope). shown_name x ∷ ds) (shown_push names n)

pub shown_length : (names : List Named) → length (shown names) ≡ length names
shown_length [] = refl
shown_length (n ∷ names) = ap suc (shown_length names)

-- ---- what a name stands for, by its place

at_next : (n : Named) (names : List Named) (o : Option ℕ) → meaning_at (n ∷ names) (option_map suc o) ≡ meaning_at names o
at_next n names None = refl
at_next n names (Some k) = refl

here_or_behind : (b : Bool) (n : Named) (names : List Named) (o : Option ℕ) (r : Option Meaning) → meaning_at names o ≡ r → meaning_at (n ∷ names) (cond b (Some 0) (option_map suc o)) ≡ cond b (Some n.means) r
here_or_behind true n names o r e = refl
here_or_behind false n names o r e = at_next n names o ∙ e

pub meaning_by_place : (names : List Named) (q : Name) → meaning_at names (place_in (shown names) q) ≡ meaning_in (shown names) q
unfolding meaning_in
meaning_by_place [] q = refl
meaning_by_place (n ∷ names) q = here_or_behind (bytes_eq n.name.now q) n names (place_in (shown names) q) (meaning_in (shown names) q) (meaning_by_place names q)

pub meaning_absent : (names : List Named) (find : Name → Option ℕ) (q : Name) → FindsFirst (shown names) find → find q ≡ None → None ≡ meaning_in (shown names) q
meaning_absent names find q h e = ap (meaning_at names) (sym (sym (h.finds q) ∙ e)) ∙ meaning_by_place names q

pub meaning_found : (names : List Named) (find : Name → Option ℕ) (q : Name) (k : ℕ) → FindsFirst (shown names) find → find q ≡ Some k → meaning_at names (Some k) ≡ meaning_in (shown names) q
meaning_found names find q k h e = ap (meaning_at names) (sym (sym (h.finds q) ∙ e)) ∙ meaning_by_place names q
