-- A slice done in place: each put changes the contents at once.
use Rattle.std.specs.Prelude.{◌≡◌, ◌≢◌, ◌⊎◌, List, [], ◌∷◌, ◌++◌, Some, if◌then◌else◌}
use Rattle.store_api.specs.declared.loc.Loc.{Loc}
use Rattle.store_api.specs.declared.val.Val.{Val}
use Rattle.store_api.specs.Places.{Contents, loc_eq}
use Rattle.slice_core.specs.Tree.{Tree, Asks, Puts, Emits, Ends, Effect, Outcome}
use Rattle.slice_core.specs.Slices.{Slice, after_writes}

-- what is there at a slice's end
pub record End (R : Type 0) : Type 0 where
  pub contents : Contents
  pub effects : List Effect
  pub outcome : Outcome R
  pub rest : R

-- the contents with a value at a place
abbrev pub put_at : Contents → Loc → Val → Contents
put_at c l v = λ m. if loc_eq m l then Some v else c m

abbrev pub walked_from : {R : Type 0} → Tree R → Contents → List Effect → End R
walked_from (Asks l k) c es = walked_from (k (c l)) c es
walked_from (Puts l v t) c es = walked_from t (put_at c l v) es
walked_from (Emits e t) c es = walked_from t c (es ++ e ∷ [])
walked_from (Ends o r) c es = record { contents = c; effects = es; outcome = o; rest = r }

abbrev pub walked : {R : Type 0} → Tree R → Contents → End R
walked t c = walked_from t c []

-- what a slice leaves in contents
abbrev pub end_of : {R : Type 0} → Slice R → Contents → End R
end_of s c = record { contents = after_writes s.writes c; effects = s.effects; outcome = s.outcome; rest = s.rest }

-- whether a slice done in place asks a place before it puts something there
abbrev pub IsAsked : {R : Type 0} → Tree R → Contents → Loc → Type 0
IsAsked (Asks l k) c m = (m ≡ l) ⊎ IsAsked (k (c l)) c m
IsAsked (Puts l v t) c m = (m ≢ l) × IsAsked t (put_at c l v) m
IsAsked (Emits e t) c m = IsAsked t c m
IsAsked (Ends o r) c m = ⊥
