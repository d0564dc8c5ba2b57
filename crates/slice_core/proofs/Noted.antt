-- No place comes twice in notes or writes.
use Rattle.std.proofs.Common.{◌≡◌, List, [], ◌∷◌, ◌++◌, Option, Some, None, Bool, true, false, cond, is_some, if◌then◌else◌, refl, ap, ◌∙◌}
use Rattle.std.specs.Map.{lookup}
use Rattle.indexmap.specs.IndexMap.{insert_entry}
use Rattle.store_api.specs.declared.loc.Loc.{Loc}
use Rattle.store_api.specs.declared.val.Val.{Val}
use Rattle.store_api.specs.PlaceEq.{loc_eq-comm}
use Rattle.store_api.specs.Places.{Contents, loc_eq}
use Rattle.slice_core.specs.Tree.{Tree, Asks, Puts, Emits, Ends, Effect}
use Rattle.slice_core.specs.Slices.{Slice, Notes, Writes, on_from, noted, EachOnce}
use Rattle.slice_core.proofs.Entries.{lookup-insert}
use Rattle.slice_core.proofs.SameSlice.{own_all}

once-insert : {V : Type 0} (es : List (Loc × V)) (l : Loc) (v : V) → EachOnce es → EachOnce (insert_entry loc_eq es l v)
once-insert [] l v once = (refl, tt)
once-insert {V} (e ∷ es) l v once = by (loc_eq l e.0) refl (once-insert es l v once.1)
  where
    by : (b : Bool) → loc_eq l e.0 ≡ b → EachOnce (insert_entry loc_eq es l v) → EachOnce (if b then (e.0, v) ∷ es else e ∷ insert_entry loc_eq es l v)
    by true is more = (once.0, once.1)
    by false is more = (lookup-insert es l e.0 v ∙ (ap (λ b. cond b (Some v) (lookup (loc_eq e.0) es)) (loc_eq-comm e.0 l ∙ is) ∙ once.0), more)

once-noted : (ns : Notes) (l : Loc) (v : Option Val) → EachOnce ns → EachOnce (noted ns l v)
once-noted ns l v once = by (lookup (loc_eq l) ns)
  where
    by : (o : Option (Option Val)) → EachOnce (if is_some o then ns else insert_entry loc_eq ns l v)
    by None = once-insert ns l v once
    by (Some x) = once

pub notes-once : {R : Type 0} (t : Tree R) (c : Contents) (ns : Notes) (ws : Writes) (es : List Effect) → EachOnce ns → EachOnce (on_from t c ns ws es).notes
notes-once {R} (Asks l k) c ns ws es once =
    own_all (λ (s : Slice R). EachOnce s.notes) (lookup (loc_eq l) ws) _ _ (λ v. notes-once (k (Some v)) c ns ws es once) (notes-once (k (c l)) c (noted ns l (c l)) ws es (once-noted ns l (c l) once))
notes-once (Puts l v t) c ns ws es once = notes-once t c ns (insert_entry loc_eq ws l v) es once
notes-once (Emits e t) c ns ws es once = notes-once t c ns ws (es ++ e ∷ []) once
notes-once (Ends o r) c ns ws es once = once

pub writes-once : {R : Type 0} (t : Tree R) (c : Contents) (ns : Notes) (ws : Writes) (es : List Effect) → EachOnce ws → EachOnce (on_from t c ns ws es).writes
writes-once {R} (Asks l k) c ns ws es once =
    own_all (λ (s : Slice R). EachOnce s.writes) (lookup (loc_eq l) ws) _ _ (λ v. writes-once (k (Some v)) c ns ws es once) (writes-once (k (c l)) c (noted ns l (c l)) ws es once)
writes-once (Puts l v t) c ns ws es once = writes-once t c ns (insert_entry loc_eq ws l v) es (once-insert ws l v once)
writes-once (Emits e t) c ns ws es once = writes-once t c ns ws (es ++ e ∷ []) once
writes-once (Ends o r) c ns ws es once = once
