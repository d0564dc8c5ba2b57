-- What a file's first lines have given, and what they will give together with the rest.
use Rattle.std.specs.Prelude.{◌≡◌, ℕ, ◌+◌, List, [], ◌∷◌, ◌++◌, filter_map, unwrap_or, None}
use Rattle.blif_read.specs.Lines.{joined, joined_to, line_of}
use Rattle.blif_read.specs.declared.lines.Line.{Line}
use Rattle.blif_read.specs.declared.lines.Joiner.{Joiner}

-- all joined lines, where these are the lines that follow
unfoldable pub gathered : Joiner → List (List ℕ) → List Line
gathered j rest = j.lines.items ++ filter_map line_of (joined_to (unwrap_or j.begun (j.number + 1)) j.text.items (joined (j.number + 1) rest))

-- only an open line has a text
abbrev pub IsTidy : Joiner → Type 0
IsTidy j = j.begun ≡ None → j.text.items ≡ []

-- one line more
pub record Joins (old new : Joiner) (line : List ℕ) : Type 0 where
  pub all : (rest : List (List ℕ)) → gathered new rest ≡ gathered old (line ∷ rest)
  pub tidy : IsTidy new
  pub number : new.number ≡ old.number + 1
