-- Noted are exactly the places that are asked before something is put there.
use Rattle.std.proofs.Common.{◌≡◌, ◌≢◌, ◌⊎◌, inl, inr, List, [], ◌∷◌, ◌++◌, Option, Some, None, Bool, true, false, cond, is_some, if◌then◌else◌, refl, sym, ap, ◌∙◌, subst}
use Rattle.std.specs.Prelude.{IsSome}
use Rattle.std.specs.Map.{lookup}
use Rattle.indexmap.specs.IndexMap.{insert_entry}
use Rattle.store_api.specs.declared.loc.Loc.{Loc}
use Rattle.store_api.specs.declared.val.Val.{Val}
use Rattle.store_api.specs.PlaceEq.{loc_eq-sound, loc_eq-refl}
use Rattle.store_api.specs.Places.{Contents, loc_eq}
use Rattle.slice_core.specs.Tree.{Tree, Asks, Puts, Emits, Ends, Effect}
use Rattle.slice_core.specs.Slices.{Slice, Notes, Writes, on_from, answered, noted, after_writes}
use Rattle.slice_core.specs.Walks.{IsAsked}
use Rattle.slice_core.proofs.Entries.{lookup-insert}
use Rattle.slice_core.proofs.SameSlice.{noted_has, on_keeps}
use Rattle.slice_core.proofs.Walked.{after-put}

-- a place that is there after an insertion was there, or was inserted
was_there : {V : Type 0} (es : List (Loc × V)) (l m : Loc) (v : V) → IsSome (lookup (loc_eq m) (insert_entry loc_eq es l v)) → IsSome (lookup (loc_eq m) es) ⊎ (m ≡ l)
was_there {V} es l m v h = by (loc_eq m l) refl (subst (λ o. IsSome o) (lookup-insert es l m v) h)
  where
    by : (b : Bool) → loc_eq m l ≡ b → IsSome (cond b (Some v) (lookup (loc_eq m) es)) → IsSome (lookup (loc_eq m) es) ⊎ (m ≡ l)
    by true is h = inr (loc_eq-sound m l is)
    by false is h = inl h

was_noted : (ns : Notes) (l m : Loc) (v : Option Val) → IsSome (lookup (loc_eq m) (noted ns l v)) → IsSome (lookup (loc_eq m) ns) ⊎ (m ≡ l)
was_noted ns l m v h = by (lookup (loc_eq l) ns) h
  where
    by : (o : Option (Option Val)) → IsSome (lookup (loc_eq m) (if is_some o then ns else insert_entry loc_eq ns l v)) → IsSome (lookup (loc_eq m) ns) ⊎ (m ≡ l)
    by None e = was_there ns l m v e
    by (Some x) e = inl e

-- a place that isn't there after an insertion wasn't there, and is another
record IsApart (ws : Writes) (l m : Loc) : Type 0 where
  none : lookup (loc_eq m) ws ≡ None
  other : m ≢ l

apart : (ws : Writes) (l m : Loc) (v : Val) → lookup (loc_eq m) (insert_entry loc_eq ws l v) ≡ None → IsApart ws l m
apart ws l m v h = by (loc_eq m l) refl (sym (lookup-insert ws l m v) ∙ h)
  where
    by : (b : Bool) → loc_eq m l ≡ b → cond b (Some v) (lookup (loc_eq m) ws) ≡ None → IsApart ws l m
    by true is e = absurd cc
    by false is e = record {
      none = e;
      other = λ same. let yes : loc_eq m l ≡ true = ap (loc_eq m) (sym same) ∙ loc_eq-refl m in absurd cc;
    }

none-insert : (ws : Writes) (l m : Loc) (v : Val) → lookup (loc_eq m) ws ≡ None → m ≢ l → lookup (loc_eq m) (insert_entry loc_eq ws l v) ≡ None
none-insert ws l m v none other = lookup-insert ws l m v ∙ by (loc_eq m l) refl
  where
    by : (b : Bool) → loc_eq m l ≡ b → cond b (Some v) (lookup (loc_eq m) ws) ≡ None
    by true is = absurd (other (loc_eq-sound m l is))
    by false is = none

-- asked behind these writes
record IsAskedBehind {R : Type 0} (t : Tree R) (c : Contents) (ws : Writes) (m : Loc) : Type 0 where
  none : lookup (loc_eq m) ws ≡ None
  asked : IsAsked t (after_writes ws c) m

noted-asked : {R : Type 0} (t : Tree R) (c : Contents) (ns : Notes) (ws : Writes) (es : List Effect) (m : Loc) → IsSome (lookup (loc_eq m) (on_from t c ns ws es).notes) → IsSome (lookup (loc_eq m) ns) ⊎ IsAskedBehind t c ws m
noted-asked {R} (Asks l k) c ns ws es m h =
    by (lookup (loc_eq l) ws) refl _ _ h (λ v. noted-asked (k (Some v)) c ns ws es m) (noted-asked (k (c l)) c (noted ns l (c l)) ws es m)
  where
    asked_at : (o : Option Val) → lookup (loc_eq l) ws ≡ o → lookup (loc_eq m) ws ≡ None → (m ≡ l) ⊎ IsAsked (k (answered o (λ v. Some v) (c l))) (after_writes ws c) m → IsAskedBehind (Asks l k) c ws m
    asked_at o is none h = record { none = none; asked = subst (λ x. (m ≡ l) ⊎ IsAsked (k (answered x (λ v. Some v) (c l))) (after_writes ws c) m) (sym is) h }

    new : lookup (loc_eq l) ws ≡ None → IsSome (lookup (loc_eq m) ns) ⊎ (m ≡ l) → IsSome (lookup (loc_eq m) ns) ⊎ IsAskedBehind (Asks l k) c ws m
    new is (inl h) = inl h
    new is (inr e) = inr (asked_at None is (ap (λ x. lookup (loc_eq x) ws) e ∙ is) (inl e))

    by : (o : Option Val) → lookup (loc_eq l) ws ≡ o → (f : Val → Slice R) (a : Slice R) → IsSome (lookup (loc_eq m) (answered o f a).notes) → ((v : Val) → IsSome (lookup (loc_eq m) (f v).notes) → IsSome (lookup (loc_eq m) ns) ⊎ IsAskedBehind (k (Some v)) c ws m) → (IsSome (lookup (loc_eq m) a.notes) → IsSome (lookup (loc_eq m) (noted ns l (c l))) ⊎ IsAskedBehind (k (c l)) c ws m) → IsSome (lookup (loc_eq m) ns) ⊎ IsAskedBehind (Asks l k) c ws m
    by None is f a h own other = from_other (other h)
      where
        from_other : IsSome (lookup (loc_eq m) (noted ns l (c l))) ⊎ IsAskedBehind (k (c l)) c ws m → IsSome (lookup (loc_eq m) ns) ⊎ IsAskedBehind (Asks l k) c ws m
        from_other (inl g) = new is (was_noted ns l m (c l) g)
        from_other (inr g) = inr (asked_at None is g.none (inr g.asked))
    by (Some v) is f a h own other = from_own (own v h)
      where
        from_own : IsSome (lookup (loc_eq m) ns) ⊎ IsAskedBehind (k (Some v)) c ws m → IsSome (lookup (loc_eq m) ns) ⊎ IsAskedBehind (Asks l k) c ws m
        from_own (inl g) = inl g
        from_own (inr g) = inr (asked_at (Some v) is g.none (inr g.asked))
noted-asked {R} (Puts l v t) c ns ws es m h = by (noted-asked t c ns (insert_entry loc_eq ws l v) es m h)
  where
    by : IsSome (lookup (loc_eq m) ns) ⊎ IsAskedBehind t c (insert_entry loc_eq ws l v) m → IsSome (lookup (loc_eq m) ns) ⊎ IsAskedBehind (Puts l v t) c ws m
    by (inl g) = inl g
    by (inr g) =
        let a = apart ws l m v g.none in
        inr (record { none = a.none; asked = (a.other, subst (λ d. IsAsked t d m) (after-put ws c l v) g.asked) })
noted-asked {R} (Emits e t) c ns ws es m h = by (noted-asked t c ns ws (es ++ e ∷ []) m h)
  where
    by : IsSome (lookup (loc_eq m) ns) ⊎ IsAskedBehind t c ws m → IsSome (lookup (loc_eq m) ns) ⊎ IsAskedBehind (Emits e t) c ws m
    by (inl g) = inl g
    by (inr g) = inr (record { none = g.none; asked = g.asked })
noted-asked (Ends o r) c ns ws es m h = inl h

is_there : {A : Type 0} (o : Option A) (x : A) → o ≡ Some x → IsSome o
is_there o x e = subst (λ o. IsSome o) (sym e) (refl)

asked-noted : {R : Type 0} (t : Tree R) (c : Contents) (ns : Notes) (ws : Writes) (es : List Effect) (m : Loc) → lookup (loc_eq m) ws ≡ None → IsAsked t (after_writes ws c) m → IsSome (lookup (loc_eq m) (on_from t c ns ws es).notes)
asked-noted {R} (Asks l k) c ns ws es m none asked =
    by (lookup (loc_eq l) ws) refl _ _ asked (λ v. asked-noted (k (Some v)) c ns ws es m none) (asked-noted (k (c l)) c (noted ns l (c l)) ws es m none) now
  where
    now : m ≡ l → IsSome (lookup (loc_eq m) (on_from (k (c l)) c (noted ns l (c l)) ws es).notes)
    now e =
        let n = noted_has ns c l in
        is_there _ n.0 (ap (λ x. lookup (loc_eq x) (on_from (k (c l)) c (noted ns l (c l)) ws es).notes) e ∙ on_keeps (k (c l)) c (noted ns l (c l)) ws es l n.0 n.1)

    by : (o : Option Val) → lookup (loc_eq l) ws ≡ o → (f : Val → Slice R) (a : Slice R) → (m ≡ l) ⊎ IsAsked (k (answered o (λ v. Some v) (c l))) (after_writes ws c) m → ((v : Val) → IsAsked (k (Some v)) (after_writes ws c) m → IsSome (lookup (loc_eq m) (f v).notes)) → (IsAsked (k (c l)) (after_writes ws c) m → IsSome (lookup (loc_eq m) a.notes)) → (m ≡ l → IsSome (lookup (loc_eq m) a.notes)) → IsSome (lookup (loc_eq m) (answered o f a).notes)
    by None is f a (inl e) own other first = first e
    by None is f a (inr g) own other first = other g
    by (Some v) is f a (inl e) own other first = let same : lookup (loc_eq m) ws ≡ lookup (loc_eq l) ws = ap (λ x. lookup (loc_eq x) ws) e in absurd cc
    by (Some v) is f a (inr g) own other first = own v g
asked-noted (Puts l v t) c ns ws es m none asked =
    asked-noted t c ns (insert_entry loc_eq ws l v) es m (none-insert ws l m v none asked.0) (subst (λ d. IsAsked t d m) (sym (after-put ws c l v)) asked.1)
asked-noted (Emits e t) c ns ws es m none asked = asked-noted t c ns ws (es ++ e ∷ []) m none asked
asked-noted (Ends o r) c ns ws es m none asked = absurd asked

pub on-asked : {R : Type 0} (t : Tree R) (c : Contents) (l : Loc) → IsSome (lookup (loc_eq l) (on_from t c [] [] []).notes) → IsAsked t c l
on-asked {R} t c l h = by (noted-asked t c [] [] [] l h)
  where
    by : IsSome {T = Option Val} None ⊎ IsAskedBehind t c [] l → IsAsked t c l
    by (inl g) = absurd cc
    by (inr g) = g.asked

pub on-notes : {R : Type 0} (t : Tree R) (c : Contents) (l : Loc) → IsAsked t c l → IsSome (lookup (loc_eq l) (on_from t c [] [] []).notes)
on-notes t c l asked = asked-noted t c [] [] [] l refl asked
