-- Tokens by their codes, and tokens with their depth. A grammar's tokens may be of any type T; `code` gives the number of a token's kind,
-- as a reserved word, a sign, or a name.
use Rattle.std.specs.Prelude.{ℕ, ◌≤◌, ◌==◌, ◌||◌, Bool, false, List, [], ◌∷◌}

-- whether a code is one of these
abbrev pub member : List ℕ → ℕ → Bool
member [] c = false
member (x ∷ xs) c = (x == c) || member xs c

-- a token, and how many productions that count it lies in
abbrev pub Cell : Type 0 → Type 0
Cell T = T × ℕ

-- the tokens alone
abbrev pub bare : {T : Type 0} → List (Cell T) → List T
bare [] = []
bare (c ∷ cs) = c.0 ∷ bare cs

-- no token is deeper than the limit
abbrev pub Within : {T : Type 0} → ℕ → List (Cell T) → Type 0
Within limit [] = Unit {0}
Within limit (c ∷ cs) = (c.1 ≤ limit) × Within limit cs

-- whether there is a next token and its code is one of these
abbrev pub begins : {T : Type 0} → (T → ℕ) → List ℕ → List T → Bool
begins code codes [] = false
begins code codes (t ∷ ts) = member codes (code t)

-- what follows the next token
abbrev pub behind : {T : Type 0} → List T → List T
behind [] = []
behind (t ∷ ts) = ts
