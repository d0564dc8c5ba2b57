-- What a slice does in given contents.
use Rattle.std.specs.Prelude.{◌≡◌, List, [], ◌∷◌, ◌++◌, Option, Some, None, is_some, if◌then◌else◌}
use Rattle.std.specs.Map.{lookup}
use Rattle.indexmap.specs.IndexMap.{insert_entry}
use Rattle.store_api.specs.declared.loc.Loc.{Loc}
use Rattle.store_api.specs.declared.val.Val.{Val}
use Rattle.store_api.specs.Places.{Contents, loc_eq}
use Rattle.slice_core.specs.Tree.{Tree, Asks, Puts, Emits, Ends, Effect, Outcome}

-- places with what stood there, in order of first asking
abbrev pub Notes : Type 0
Notes = List (Loc × Option Val)

-- places with the last value put there, in order of first writing
abbrev pub Writes : Type 0
Writes = List (Loc × Val)

pub record Slice (R : Type 0) : Type 0 where
  -- each place that was asked and not answered by an own put, once
  pub notes : Notes
  pub writes : Writes
  pub effects : List Effect
  pub outcome : Outcome R
  pub rest : R

-- a place is noted once
abbrev pub noted : Notes → Loc → Option Val → Notes
noted ns l v = if is_some (lookup (loc_eq l) ns) then ns else insert_entry loc_eq ns l v

-- an own put answers where there is one, and else another does
abbrev pub answered : {A : Type 0} → Option Val → (Val → A) → A → A
answered None own other = other
answered (Some v) own other = own v

-- the slice in contents, after these notes, writes and effects
abbrev pub on_from : {R : Type 0} → Tree R → Contents → Notes → Writes → List Effect → Slice R
on_from (Asks l k) c ns ws es =
    answered (lookup (loc_eq l) ws) (λ v. on_from (k (Some v)) c ns ws es) (on_from (k (c l)) c (noted ns l (c l)) ws es)
on_from (Puts l v t) c ns ws es = on_from t c ns (insert_entry loc_eq ws l v) es
on_from (Emits e t) c ns ws es = on_from t c ns ws (es ++ e ∷ [])
on_from (Ends o r) c ns ws es = record { notes = ns; writes = ws; effects = es; outcome = o; rest = r }

-- the slice in contents
abbrev pub on : {R : Type 0} → Tree R → Contents → Slice R
on t c = on_from t c [] [] []

-- the contents after writes
abbrev pub after_writes : Writes → Contents → Contents
after_writes ws c = λ l. answered (lookup (loc_eq l) ws) (λ v. Some v) (c l)

-- at each place of the notes the contents have what was noted
abbrev pub AgreeOn : Notes → Contents → Type 0
AgreeOn ns d = (l : Loc) (v : Option Val) → lookup (loc_eq l) ns ≡ Some v → d l ≡ v

-- no place comes twice
abbrev pub EachOnce : {V : Type 0} → List (Loc × V) → Type 0
EachOnce [] = Unit {0}
EachOnce (e ∷ es) = (lookup (loc_eq e.0) es ≡ None) × EachOnce es
