-- The first line of several parts.
use Rattle.std.proofs.Common.{◌≡◌, ℕ, Bool, true, false, List, [], ◌∷◌, ◌++◌, Option, refl, ap, ◌∙◌}
use Rattle.std.specs.Prelude.{if◌then◌else◌}
use Rattle.std.specs.Option.{option_or}
use Rattle.not_built.specs.Lines.{first, each}
use Rattle.not_built.specs.Passing.{first_in}

pub first_append : (xs ys : List ℕ) → first (xs ++ ys) ≡ option_or (first xs) (first ys)
first_append [] ys = refl
first_append (x ∷ xs) ys = refl

pub first_each : {A : Type 0} (lines : A → List ℕ) (xs : List A) → first (each lines xs) ≡ first_in lines xs
first_each lines [] = refl
first_each lines (x ∷ xs) = first_append (lines x) (each lines xs) ∙ ap (λ (o : Option ℕ). option_or (first (lines x)) o) (first_each lines xs)

-- ---- a test

pub first_where : (b : Bool) (xs ys : List ℕ) → first (if b then xs else ys) ≡ (if b then first xs else first ys)
first_where true xs ys = refl
first_where false xs ys = refl
