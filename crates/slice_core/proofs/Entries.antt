-- Look-ups in lists of places after an insertion.
use Rattle.std.proofs.Common.{◌≡◌, List, [], ◌∷◌, Option, Some, None, refl, sym, ap, ◌∙◌, Bool, true, false, if◌then◌else◌, cond}
use Rattle.std.specs.Map.{lookup}
use Rattle.indexmap.specs.IndexMap.{insert_entry}
use Rattle.store_api.specs.declared.loc.Loc.{Loc}
use Rattle.store_api.specs.Places.{loc_eq}
use Rattle.store_api.specs.PlaceEq.{loc_eq-refl, loc_eq-sound}

same_key : {V : Type 0} (l m k : Loc) (v w : V) (o : Option V) → l ≡ k → cond (loc_eq m k) (Some v) o ≡ cond (loc_eq m l) (Some v) (cond (loc_eq m k) (Some w) o)
same_key {V} l m k v w o q = cases (loc_eq m k) (loc_eq m l) (ap (λ x. loc_eq m x) q)
  where
    cases : (a b : Bool) → b ≡ a → cond a (Some v) o ≡ cond b (Some v) (cond a (Some w) o)
    cases true true p = refl
    cases false false p = refl
    cases true false p = absurd cc
    cases false true p = absurd cc

other_key : {V : Type 0} (l m k : Loc) (v w : V) (o : Option V) → loc_eq l k ≡ false → cond (loc_eq m k) (Some w) (cond (loc_eq m l) (Some v) o) ≡ cond (loc_eq m l) (Some v) (cond (loc_eq m k) (Some w) o)
other_key {V} l m k v w o q = cases (loc_eq m k) (loc_eq m l) refl refl
  where
    cases : (a b : Bool) → loc_eq m k ≡ a → loc_eq m l ≡ b → cond a (Some w) (cond b (Some v) o) ≡ cond b (Some v) (cond a (Some w) o)
    cases true true p r =
        let x : m ≡ k = loc_eq-sound m k p in
        let y : m ≡ l = loc_eq-sound m l r in
        let z : loc_eq l k ≡ true = ap (λ z. loc_eq l z) (sym x ∙ y) ∙ loc_eq-refl l in
        absurd cc
    cases true false p r = refl
    cases false true p r = refl
    cases false false p r = refl

-- a look-up after an insertion
pub lookup-insert : {V : Type 0} (ns : List (Loc × V)) (l m : Loc) (v : V) → lookup (loc_eq m) (insert_entry loc_eq ns l v) ≡ cond (loc_eq m l) (Some v) (lookup (loc_eq m) ns)
lookup-insert [] l m v = refl
lookup-insert {V} (e ∷ es) l m v = here (loc_eq l e.0) refl (lookup-insert es l m v)
  where
    here : (b : Bool) → loc_eq l e.0 ≡ b → lookup (loc_eq m) (insert_entry loc_eq es l v) ≡ cond (loc_eq m l) (Some v) (lookup (loc_eq m) es) → lookup (loc_eq m) (if b then (e.0, v) ∷ es else e ∷ insert_entry loc_eq es l v) ≡ cond (loc_eq m l) (Some v) (cond (loc_eq m e.0) (Some e.1) (lookup (loc_eq m) es))
    here true q h = same_key l m e.0 v e.1 (lookup (loc_eq m) es) (loc_eq-sound l e.0 q)
    here false q h = ap (λ (o : Option V). cond (loc_eq m e.0) (Some e.1) o) h ∙ other_key l m e.0 v e.1 (lookup (loc_eq m) es) q

pub lookup_same : {V : Type 0} (ns : List (Loc × V)) (l : Loc) (v : V) → lookup (loc_eq l) (insert_entry loc_eq ns l v) ≡ Some v
lookup_same ns l v = lookup-insert ns l l v ∙ ap (λ b. cond b (Some v) (lookup (loc_eq l) ns)) (loc_eq-refl l)

-- a place that is there keeps its value when another place is inserted
pub lookup_kept : {V : Type 0} (ns : List (Loc × V)) (l m : Loc) (v w : V) → lookup (loc_eq l) ns ≡ None → lookup (loc_eq m) ns ≡ Some w → lookup (loc_eq m) (insert_entry loc_eq ns l v) ≡ Some w
lookup_kept ns l m v w g h = lookup-insert ns l m v ∙ cases (loc_eq m l) refl
  where
    cases : (b : Bool) → loc_eq m l ≡ b → cond b (Some v) (lookup (loc_eq m) ns) ≡ Some w
    cases true p =
        let x : lookup (loc_eq m) ns ≡ lookup (loc_eq l) ns = ap (λ k. lookup (loc_eq k) ns) (loc_eq-sound m l p) in
        absurd cc
    cases false p = h
