-- Lists of lines in text order.
use Rattle.std.specs.Prelude.{ℕ, List, [], ◌∷◌, ◌++◌, Option, Some, None}

abbrev pub first : List ℕ → Option ℕ
first [] = None
first (line ∷ lines) = Some line

-- the lines of parts that stand one after the other
abbrev pub each : {A : Type 0} → (A → List ℕ) → List A → List ℕ
each lines [] = []
each lines (x ∷ xs) = lines x ++ each lines xs
