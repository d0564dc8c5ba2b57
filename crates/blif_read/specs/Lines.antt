-- A netlist's joined lines: what stands between line ends, without comments and carriage returns, a line that
-- ends in a backslash together with the next one, and each cut into words.
use Rattle.std.specs.Prelude.{ℕ, ◌+◌, ◌-◌, ◌==◌, Bool, not, ◌||◌, List, [], ◌∷◌, ◌++◌, length, take, map, filter, filter_map, Option, Some, None, slice_index, if◌then◌else◌}
use Rattle.std.specs.List.{slice_split, before_first}
use Rattle.blif_read.specs.declared.lines.Line.{Line}

-- a line's end
abbrev pub is_newline : ℕ → Bool
is_newline b = b == 10

-- tab, line end, carriage return and space
abbrev pub is_blank : ℕ → Bool
is_blank b = b == 9 || b == 10 || b == 13 || b == 32

-- whether b is the last byte of the line
abbrev pub ends_in : ℕ → List ℕ → Bool
ends_in b line = slice_index line (length line - 1) == b

-- all bytes but the last
abbrev pub without_last : List ℕ → List ℕ
without_last line = take (length line - 1) line

abbrev pub without_return : List ℕ → List ℕ
without_return line = if ends_in 13 line then without_last line else line

-- what stands before the first `#`
abbrev pub before_comment : List ℕ → List ℕ
before_comment line = before_first (λ b. b == 35) line

unfoldable pub cleaned : List ℕ → List ℕ
cleaned line = before_comment (without_return line)

-- whether the line ends in a backslash, so that the next one belongs to it
abbrev pub is_continued : List ℕ → Bool
is_continued line = ends_in 92 line

-- a text and the number of its first line
abbrev pub Numbered : Type 0
Numbered = ℕ × List ℕ

-- front, which begins on line n, and behind it the first of the lines that follow, where there is one
unfoldable pub joined_to : ℕ → List ℕ → List Numbered → List Numbered
joined_to n front [] = (n, front) ∷ []
joined_to n front (line ∷ more) = (n, front ++ line.1) ∷ more

-- the joined lines of the lines from number n on
unfoldable pub joined : ℕ → List (List ℕ) → List Numbered
joined n [] = []
joined n (line ∷ more) = if is_continued line then joined_to n (without_last line) (joined (n + 1) more) else (n, line) ∷ joined (n + 1) more

-- what stands between blanks
unfoldable pub words : List ℕ → List (List ℕ)
words text = filter (λ word. not (length word == 0)) (slice_split is_blank text)

-- the line of these words; without a word there is none
abbrev pub line_of_words : ℕ → List (List ℕ) → Option Line
line_of_words n [] = None
line_of_words n (first ∷ rest) = Some (record { number = n; first = first; rest = rest })

unfoldable pub line_of : Numbered → Option Line
line_of line = line_of_words line.0 (words line.1)

-- the lines with a word of a netlist
unfoldable pub net_lines : List ℕ → List Line
net_lines bytes = filter_map line_of (joined 1 (map cleaned (slice_split is_newline bytes)))
