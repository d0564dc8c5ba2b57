-- The directives that a text begins with.
use Rattle.std.specs.Prelude.{ℕ, suc, ◌+◌, ◌==◌, ◌&&◌, Bool, true, false, if◌then◌else◌, List, [], ◌∷◌, take, drop, slice_index, nat_eq, Option, Some, None, codes}
use Rattle.std.specs.Str.{bytes_eq}
use Rattle.std.specs.List.{starts_with}
use Rattle.vera_lex.specs.Bytes.{is_space, is_letter, opens_word, in_word, run}

pub data Directive : Type 0 where
  include : Directive
  define : List ℕ → Directive

-- a `#` that a letter follows
abbrev pub opens_directive : List ℕ → Bool
opens_directive text = slice_index text 0 == 35 && is_letter (slice_index text 1)

abbrev pub header : List ℕ
header = codes "<vera_defines.vrh>"

-- how many blanks and comments, all on one line, the bytes begin with; the flag says that they begin within a comment
abbrev pub gap : Bool → List ℕ → ℕ
gap inside [] = 0
gap inside (a ∷ []) = if inside then (if a == 10 then 0 else 1) else (if is_space a then 1 else 0)
gap inside (a ∷ b ∷ bs) =
    if inside then (if a == 42 && b == 47 then suc (suc (gap false bs)) else (if a == 10 then 0 else suc (gap true (b ∷ bs))))
    else (if is_space a then suc (gap false (b ∷ bs)) else (if a == 47 && b == 42 then suc (suc (gap true bs)) else 0))

-- the word at the front
abbrev pub front_word : List ℕ → List ℕ
front_word bs = take (run in_word bs) bs

-- behind `#include`: the header, on the same line
abbrev pub include_at : List ℕ → Option (Directive × ℕ)
include_at bs = if starts_with nat_eq (drop (run is_space bs) bs) header then Some (include, 8 + run is_space bs + 18) else None

-- behind `#define`: the name, on the same line
abbrev pub define_at : List ℕ → Option (Directive × ℕ)
define_at bs =
    if opens_word (slice_index (drop (gap false bs) bs) 0)
    then Some (define (front_word (drop (gap false bs) bs)), 7 + gap false bs + run in_word (drop (gap false bs) bs))
    else None

-- the directive of a word and of what stands behind it
abbrev pub directive_of : List ℕ → List ℕ → Option (Directive × ℕ)
directive_of word bs =
    if bytes_eq word (codes "include") then include_at bs else (if bytes_eq word (codes "define") then define_at bs else None)

-- the directive at the front, behind its `#`, and how many bytes it has: a `#define` up to its name, whose tokens follow
unfoldable pub directive_behind : List ℕ → Option (Directive × ℕ)
directive_behind bs = directive_of (front_word bs) (drop (run in_word bs) bs)

abbrev pub directive : List ℕ → Option (Directive × ℕ)
directive text = directive_behind (drop 1 text)
