-- What arguments that are taken apart give.
use Rattle.std.proofs.Common.{◌≡◌, Bool, true, false, List, [], ◌∷◌, ◌++◌, refl, sym, ap, ◌∙◌, append_assoc}
use Rattle.std.specs.Prelude.{if◌then◌else◌}
use Rattle.std.proofs.lemmas.List.{append-nil}
use Rattle.vera_ast.specs.declared.typed.expr.TypedExpr.{TypedExpr}
use Rattle.vera_ast.specs.declared.typed.place.TypedPlace.{TypedPlace}
use Rattle.typing_rules.specs.Heads.{place}
use Rattle.typing_rules.specs.Operands.{operands_in, places_in, behind_format}
use Rattle.vera_calls.specs.Splitting.{put_value, put, split_from, nothing}
use Rattle.typing_rules.specs.declared.head.Argument.{Argument}
use Rattle.typing_rules.specs.declared.head.Argument.TheVariants as a
use Rattle.typing_rules.specs.declared.head.Typed.{Typed}
use Rattle.vera_calls.specs.declared.split.Split.{Split}

one_more : {A : Type 0} (xs ys : List A) (x : A) → (xs ++ x ∷ []) ++ ys ≡ xs ++ x ∷ ys
one_more xs ys x = append_assoc xs (x ∷ []) ys

-- ---- variables

same_places : (s : Split) (v : Typed) (b : Bool) → (if b then record s { behind = s.behind ++ v.expr ∷ [] } else record s { values = s.values ++ v.expr ∷ [] }).places ≡ s.places
same_places s v true = refl
same_places s v false = refl

places_from : (s : Split) (xs : List Argument) → (split_from s xs).places ≡ s.places ++ places_in xs
unfolding places_in
places_from s [] = sym (append-nil s.places)
places_from s (a.Value v ∷ xs) = places_from (put_value s v) xs ∙ ap (λ (ps : List TypedPlace). ps ++ places_in xs) (same_places s v s.is_behind)
places_from s (a.Whole x ∷ xs) = places_from (put s (a.Whole x)) xs ∙ one_more s.places (places_in xs) (place x)
places_from s (a.NoVariable of ∷ xs) = places_from s xs
places_from s (a.Literal text ∷ xs) = places_from (put s (a.Literal text)) xs
places_from s (a.Zero ∷ xs) = places_from s xs
places_from s (a.Mode mode ∷ xs) = places_from s xs

pub places_all : (xs : List Argument) → (split_from nothing xs).places ≡ places_in xs
places_all xs = places_from nothing xs

-- ---- values, once a format was met

abbrev behind_is : List TypedExpr → List TypedExpr → List TypedPlace → Split
behind_is values behind places = record { values = values; behind = behind; places = places; is_behind = true }

behind_values : (values behind : List TypedExpr) (places : List TypedPlace) (xs : List Argument) → (split_from (behind_is values behind places) xs).values ≡ values
behind_values values behind places [] = refl
behind_values values behind places (a.Value v ∷ xs) = behind_values values (behind ++ v.expr ∷ []) places xs
behind_values values behind places (a.Whole x ∷ xs) = behind_values values behind (places ++ place x ∷ []) xs
behind_values values behind places (a.NoVariable of ∷ xs) = behind_values values behind places xs
behind_values values behind places (a.Literal text ∷ xs) = behind_values values behind places xs
behind_values values behind places (a.Zero ∷ xs) = behind_values values behind places xs
behind_values values behind places (a.Mode mode ∷ xs) = behind_values values behind places xs

behind_more : (values behind : List TypedExpr) (places : List TypedPlace) (xs : List Argument) → (split_from (behind_is values behind places) xs).behind ≡ behind ++ operands_in xs
unfolding operands_in
behind_more values behind places [] = sym (append-nil behind)
behind_more values behind places (a.Value v ∷ xs) = behind_more values (behind ++ v.expr ∷ []) places xs ∙ one_more behind (operands_in xs) v.expr
behind_more values behind places (a.Whole x ∷ xs) = behind_more values behind (places ++ place x ∷ []) xs
behind_more values behind places (a.NoVariable of ∷ xs) = behind_more values behind places xs
behind_more values behind places (a.Literal text ∷ xs) = behind_more values behind places xs
behind_more values behind places (a.Zero ∷ xs) = behind_more values behind places xs
behind_more values behind places (a.Mode mode ∷ xs) = behind_more values behind places xs

-- ---- values, before a format

abbrev before_is : List TypedExpr → List TypedPlace → Split
before_is values places = record { values = values; behind = []; places = places; is_behind = false }

before_behind : (values : List TypedExpr) (places : List TypedPlace) (xs : List Argument) → (split_from (before_is values places) xs).behind ≡ operands_in (behind_format xs)
unfolding operands_in behind_format
before_behind values places [] = refl
before_behind values places (a.Value v ∷ xs) = before_behind (values ++ v.expr ∷ []) places xs
before_behind values places (a.Whole x ∷ xs) = before_behind values (places ++ place x ∷ []) xs
before_behind values places (a.NoVariable of ∷ xs) = before_behind values places xs
before_behind values places (a.Literal text ∷ xs) = behind_more values [] places xs
before_behind values places (a.Zero ∷ xs) = before_behind values places xs
before_behind values places (a.Mode mode ∷ xs) = before_behind values places xs

before_all : (values : List TypedExpr) (places : List TypedPlace) (xs : List Argument) → (split_from (before_is values places) xs).values ++ (split_from (before_is values places) xs).behind ≡ values ++ operands_in xs
unfolding operands_in
before_all values places [] = refl
before_all values places (a.Value v ∷ xs) = before_all (values ++ v.expr ∷ []) places xs ∙ one_more values (operands_in xs) v.expr
before_all values places (a.Whole x ∷ xs) = before_all values (places ++ place x ∷ []) xs
before_all values places (a.NoVariable of ∷ xs) = before_all values places xs
before_all values places (a.Literal text ∷ xs) =
    ap (λ (vs : List TypedExpr). vs ++ (split_from (behind_is values [] places) xs).behind) (behind_values values [] places xs)
    ∙ ap (λ (bs : List TypedExpr). values ++ bs) (behind_more values [] places xs)
before_all values places (a.Zero ∷ xs) = before_all values places xs
before_all values places (a.Mode mode ∷ xs) = before_all values places xs

pub values_behind : (xs : List Argument) → (split_from nothing xs).behind ≡ operands_in (behind_format xs)
values_behind xs = before_behind [] [] xs

pub values_all : (xs : List Argument) → (split_from nothing xs).values ++ (split_from nothing xs).behind ≡ operands_in xs
values_all xs = before_all [] [] xs
