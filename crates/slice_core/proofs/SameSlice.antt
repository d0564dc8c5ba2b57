-- What a slice notes stands in the contents, and contents that have it give the same slice.
use Rattle.std.proofs.Common.{◌≡◌, List, [], ◌∷◌, ◌++◌, Option, Some, None, Bool, true, false, cond, refl, sym, ap, ◌∙◌, is_some, if◌then◌else◌}
use Rattle.std.specs.Map.{lookup}
use Rattle.indexmap.specs.IndexMap.{insert_entry}
use Rattle.store_api.specs.declared.loc.Loc.{Loc}
use Rattle.store_api.specs.declared.val.Val.{Val}
use Rattle.store_api.specs.PlaceEq.{loc_eq-sound}
use Rattle.store_api.specs.Places.{Contents, loc_eq}
use Rattle.slice_core.specs.Tree.{Tree, Asks, Puts, Emits, Ends, Effect}
use Rattle.slice_core.specs.Slices.{Slice, Notes, Writes, on_from, answered, noted, AgreeOn}
use Rattle.slice_core.proofs.Entries.{lookup-insert, lookup_same, lookup_kept}

-- a place is noted
pub noted_has : (ns : Notes) (c : Contents) (l : Loc) → (w : Option Val) × (lookup (loc_eq l) (noted ns l (c l)) ≡ Some w)
noted_has ns c l = by (lookup (loc_eq l) ns) refl
  where
    by : (o : Option (Option Val)) → lookup (loc_eq l) ns ≡ o → (w : Option Val) × (lookup (loc_eq l) (if is_some o then ns else insert_entry loc_eq ns l (c l)) ≡ Some w)
    by None e = (c l, lookup_same ns l (c l))
    by (Some w) e = (w, e)

noted_keeps : (ns : Notes) (l m : Loc) (v w : Option Val) → lookup (loc_eq m) ns ≡ Some w → lookup (loc_eq m) (noted ns l v) ≡ Some w
noted_keeps ns l m v w h = by (lookup (loc_eq l) ns) refl
  where
    by : (o : Option (Option Val)) → lookup (loc_eq l) ns ≡ o → lookup (loc_eq m) (if is_some o then ns else insert_entry loc_eq ns l v) ≡ Some w
    by None e = lookup_kept ns l m v w e h
    by (Some x) e = h

own_keeps : {R : Type 0} (o : Option Val) (f : Val → Slice R) (a : Slice R) (m : Loc) (w : Option Val) → ((v : Val) → lookup (loc_eq m) (f v).notes ≡ Some w) → lookup (loc_eq m) a.notes ≡ Some w → lookup (loc_eq m) (answered o f a).notes ≡ Some w
own_keeps None f a m w h g = g
own_keeps (Some v) f a m w h g = h v

-- what is noted stays noted
pub on_keeps : {R : Type 0} (t : Tree R) (c : Contents) (ns : Notes) (ws : Writes) (es : List Effect) (m : Loc) (w : Option Val) → lookup (loc_eq m) ns ≡ Some w → lookup (loc_eq m) (on_from t c ns ws es).notes ≡ Some w
on_keeps (Asks l k) c ns ws es m w h = own_keeps (lookup (loc_eq l) ws) _ _ m w (λ v. on_keeps (k (Some v)) c ns ws es m w h) (on_keeps (k (c l)) c (noted ns l (c l)) ws es m w (noted_keeps ns l m (c l) w h))
on_keeps (Puts l v t) c ns ws es m w h = on_keeps t c ns (insert_entry loc_eq ws l v) es m w h
on_keeps (Emits e t) c ns ws es m w h = on_keeps t c ns ws (es ++ e ∷ []) m w h
on_keeps (Ends o r) c ns ws es m w h = h

own_frame : {R : Type 0} (o : Option Val) (f g : Val → Slice R) (a b : Slice R) (Fine : Slice R → Type 0) → Fine (answered o g b) → ((v : Val) → Fine (g v) → f v ≡ g v) → (Fine b → a ≡ b) → answered o f a ≡ answered o g b
own_frame None f g a b Fine fine h k = k fine
own_frame (Some v) f g a b Fine fine h k = h v fine

-- what is noted is what stands in the contents
noted-holds : (ns : Notes) (c : Contents) (l : Loc) → AgreeOn ns c → AgreeOn (noted ns l (c l)) c
noted-holds ns c l held m w h = by (lookup (loc_eq l) ns) h
  where
    here : (b : Bool) → loc_eq m l ≡ b → cond b (Some (c l)) (lookup (loc_eq m) ns) ≡ Some w → c m ≡ w
    here true is e =
        let same : c m ≡ c l = ap c (loc_eq-sound m l is) in
        cc
    here false is e = held m w e

    by : (o : Option (Option Val)) → lookup (loc_eq m) (if is_some o then ns else insert_entry loc_eq ns l (c l)) ≡ Some w → c m ≡ w
    by None e = here (loc_eq m l) refl (sym (lookup-insert ns l m (c l)) ∙ e)
    by (Some x) e = held m w e

pub own_all : {R : Type 0} (Fine : Slice R → Type 0) (o : Option Val) (f : Val → Slice R) (a : Slice R) → ((v : Val) → Fine (f v)) → Fine a → Fine (answered o f a)
own_all Fine None f a h g = g
own_all Fine (Some v) f a h g = h v

pub on-holds : {R : Type 0} (t : Tree R) (c : Contents) (ns : Notes) (ws : Writes) (es : List Effect) → AgreeOn ns c → AgreeOn (on_from t c ns ws es).notes c
on-holds {R} (Asks l k) c ns ws es held =
    own_all (λ (s : Slice R). AgreeOn s.notes c) (lookup (loc_eq l) ws) _ _ (λ v. on-holds (k (Some v)) c ns ws es held) (on-holds (k (c l)) c (noted ns l (c l)) ws es (noted-holds ns c l held))
on-holds (Puts l v t) c ns ws es held = on-holds t c ns (insert_entry loc_eq ws l v) es held
on-holds (Emits e t) c ns ws es held = on-holds t c ns ws (es ++ e ∷ []) held
on-holds (Ends o r) c ns ws es held = held

pub frame_from : {R : Type 0} (t : Tree R) (c d : Contents) (ns : Notes) (ws : Writes) (es : List Effect) → AgreeOn ns c → AgreeOn (on_from t c ns ws es).notes d → on_from t d ns ws es ≡ on_from t c ns ws es
frame_from {R} (Asks l k) c d ns ws es held h =
    own_frame (lookup (loc_eq l) ws) _ _ _ _ (λ s. AgreeOn s.notes d) h
    (λ v fine. frame_from (k (Some v)) c d ns ws es held fine)
    (λ fine.
    let n = noted_has ns c l in
    let now_held = noted-holds ns c l held in
    let same : d l ≡ c l = fine l n.0 (on_keeps (k (c l)) c (noted ns l (c l)) ws es l n.0 n.1) ∙ sym (now_held l n.0 n.1) in
    ap (λ z. on_from (k z) d (noted ns l z) ws es) same ∙ frame_from (k (c l)) c d (noted ns l (c l)) ws es now_held fine)
frame_from (Puts l v t) c d ns ws es held h = frame_from t c d ns (insert_entry loc_eq ws l v) es held h
frame_from (Emits e t) c d ns ws es held h = frame_from t c d ns ws (es ++ e ∷ []) held h
frame_from (Ends o r) c d ns ws es held h = refl
