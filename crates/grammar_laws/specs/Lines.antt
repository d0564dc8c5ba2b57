-- The line of a place in a list of tokens, by the number of tokens that are left there; `line` gives a token's line.
use Rattle.std.specs.Prelude.{ℕ, ◌-◌, List, [], ◌∷◌, length, drop}

-- the line of the first token, or of the last one that came before
abbrev pub first_line : {T : Type 0} → (T → ℕ) → ℕ → List T → ℕ
first_line line before [] = before
first_line line before (t ∷ ts) = line t

abbrev pub last_line : {T : Type 0} → (T → ℕ) → ℕ → List T → ℕ
last_line line before [] = before
last_line line before (t ∷ ts) = last_line line (line t) ts

-- the line of the token at which so many are left; at the end that of the last token, and 1 where there is no token
abbrev pub line_at : {T : Type 0} → (T → ℕ) → List T → ℕ → ℕ
line_at line ts left = first_line line (last_line line 1 ts) (drop (length ts - left) ts)
