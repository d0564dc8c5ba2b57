-- A slice done in place leaves what its writes leave.
use Rattle.std.proofs.Common.{◌≡◌, List, [], ◌∷◌, ◌++◌, Option, Some, None, Bool, true, false, cond, refl, ap, sym, ◌∙◌}
use Rattle.std.specs.Map.{lookup}
use Rattle.indexmap.specs.IndexMap.{insert_entry}
use Rattle.store_api.specs.declared.loc.Loc.{Loc}
use Rattle.store_api.specs.declared.val.Val.{Val}
use Rattle.store_api.specs.Places.{Contents, loc_eq}
use Rattle.slice_core.specs.Tree.{Tree, Asks, Puts, Emits, Ends, Effect}
use Rattle.slice_core.specs.Slices.{Slice, Notes, Writes, on_from, on, answered, noted, after_writes}
use Rattle.slice_core.specs.Walks.{walked_from, walked, end_of, put_at}
use Rattle.slice_core.proofs.Entries.{lookup-insert}

-- one more put
after-insert : (ws : Writes) (c : Contents) (l : Loc) (v : Val) (m : Loc) → after_writes (insert_entry loc_eq ws l v) c m ≡ put_at (after_writes ws c) l v m
after-insert ws c l v m = ap (λ o. answered o (λ x. Some x) (c m)) (lookup-insert ws l m v) ∙ cases (loc_eq m l)
  where
    cases : (b : Bool) → answered (cond b (Some v) (lookup (loc_eq m) ws)) (λ x. Some x) (c m) ≡ cond b (Some v) (after_writes ws c m)
    cases true = refl
    cases false = refl

pub after-put : (ws : Writes) (c : Contents) (l : Loc) (v : Val) → after_writes (insert_entry loc_eq ws l v) c ≡ put_at (after_writes ws c) l v
after-put ws c l v = λ i m. after-insert ws c l v m i

-- an answer, seen by the contents after the writes
asked_same : {R : Type 0} (o : Option Val) (k : Option Val → Tree R) (x : Option Val) (d : Contents) (es : List Effect) (f : Val → Slice R) (a : Slice R) (c : Contents) → ((v : Val) → walked_from (k (Some v)) d es ≡ end_of (f v) c) → walked_from (k x) d es ≡ end_of a c → walked_from (k (answered o (λ v. Some v) x)) d es ≡ end_of (answered o f a) c
asked_same None k x d es f a c h g = g
asked_same (Some v) k x d es f a c h g = h v

walked_is : {R : Type 0} (t : Tree R) (c : Contents) (ns : Notes) (ws : Writes) (es : List Effect) → walked_from t (after_writes ws c) es ≡ end_of (on_from t c ns ws es) c
walked_is (Asks l k) c ns ws es =
    asked_same (lookup (loc_eq l) ws) k (c l) (after_writes ws c) es _ _ c (λ v. walked_is (k (Some v)) c ns ws es) (walked_is (k (c l)) c (noted ns l (c l)) ws es)
walked_is (Puts l v t) c ns ws es = ap (λ d. walked_from t d es) (sym (after-put ws c l v)) ∙ walked_is t c ns (insert_entry loc_eq ws l v) es
walked_is (Emits e t) c ns ws es = walked_is t c ns ws (es ++ e ∷ [])
walked_is (Ends o r) c ns ws es = refl

pub walked_same : {R : Type 0} (t : Tree R) (c : Contents) → walked t c ≡ end_of (on t c) c
walked_same t c = walked_is t c [] [] []
