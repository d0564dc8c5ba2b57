-- The signs of the language. A sign's number is its place in this table, from 0.
use Rattle.std.specs.Prelude.{ℕ, List, [], ◌∷◌, codes}

-- the 48 signs
abbrev pub signs : List (List ℕ)
signs = codes "{" ∷ codes "}" ∷ codes "(" ∷ codes ")" ∷ codes "[" ∷ codes "]" ∷ codes ";" ∷ codes "," ∷ codes "." ∷ codes ":" ∷ codes "?" ∷ codes "#"
    ∷ codes "@" ∷ codes "@@" ∷ codes "@@@" ∷ codes "=" ∷ codes "<=" ∷ codes "==" ∷ codes "!=" ∷ codes "===" ∷ codes "!==" ∷ codes "=?=" ∷ codes "!?="
    ∷ codes "<" ∷ codes ">" ∷ codes ">=" ∷ codes "<<" ∷ codes ">>" ∷ codes "+" ∷ codes "-" ∷ codes "*" ∷ codes "/" ∷ codes "%" ∷ codes "!" ∷ codes "~"
    ∷ codes "&" ∷ codes "|" ∷ codes "^" ∷ codes "~&" ∷ codes "~|" ∷ codes "~^" ∷ codes "&&" ∷ codes "||" ∷ codes "+=" ∷ codes "-=" ∷ codes "++" ∷ codes "--"
    ∷ codes "->" ∷ []
