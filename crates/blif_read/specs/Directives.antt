-- A netlist's directives, each with the rows behind it.
use Rattle.std.specs.Prelude.{ℕ, ◌-◌, ◌==◌, Bool, true, false, not, ◌&&◌, nat_le, List, [], ◌∷◌, length, Option, Some, None, option_map, slice_index, if◌then◌else◌, bytes_eq, codes}
use Rattle.blif_read.specs.declared.lines.Line.{Line}
use Rattle.blif_read.specs.declared.directives.Directive.{Directive}
use Rattle.blif_read.specs.declared.directives.Directive.TheVariants.{Model, Inputs, Outputs, Clock, Names, Latch, BadLatch, End, Unknown}
use Rattle.blif_read.specs.declared.directives.Row.{Row}
use Rattle.blif_read.specs.declared.directives.Block.{Block}

abbrev pub Name : Type 0
Name = List ℕ

-- a line whose first word begins with `.` is a directive, every other one a row
unfoldable pub is_row : Line → Bool
is_row line = not (slice_index line.first 0 == 46)

unfoldable pub is_end : Line → Bool
is_end line = bytes_eq line.first (codes ".end")

-- the lines up to the first `.end`
unfoldable pub up_to_end : List Line → List Line
up_to_end [] = []
up_to_end (line ∷ more) = if is_end line then line ∷ [] else line ∷ up_to_end more

-- `.names in .. out`
abbrev pub cover_from : Name → List Name → List Name × Name
cover_from net [] = ([], net)
cover_from net (next ∷ more) = let behind = cover_from next more in (net ∷ behind.0, behind.1)

abbrev pub names_directive : List Name → Directive Name
names_directive [] = Unknown
names_directive (net ∷ more) = let cover = cover_from net more in Names cover.0 cover.1

-- a latch's first value: 3 where it isn't told
abbrev pub first_value : List Name → Option ℕ
first_value [] = Some 3
first_value (word ∷ []) = if length word == 1 && nat_le 48 (slice_index word 0) && nat_le (slice_index word 0) 51 then Some (slice_index word 0 - 48) else None
first_value (word ∷ next ∷ more) = None

-- `NIL` is no control
abbrev pub control : Name → Option Name
control word = if bytes_eq word (codes "NIL") then None else Some word

abbrev pub latch_of : Name → Name → Option Name → Option ℕ → Directive Name
latch_of input output gate None = BadLatch
latch_of input output gate (Some init) = Latch input output gate init

-- `.latch in out [re control] [init]`
abbrev pub latch_directive : List Name → Directive Name
latch_directive [] = BadLatch
latch_directive (input ∷ []) = BadLatch
latch_directive (input ∷ output ∷ []) = latch_of input output None (Some 3)
latch_directive (input ∷ output ∷ word ∷ []) = latch_of input output None (first_value (word ∷ []))
latch_directive (input ∷ output ∷ kind ∷ gate ∷ more) = if bytes_eq kind (codes "re") then latch_of input output (control gate) (first_value more) else BadLatch

-- the directive of these words
unfoldable pub directive : Name → List Name → Directive Name
directive first rest =
    if bytes_eq first (codes ".model") then Model (length rest)
    else if bytes_eq first (codes ".inputs") then Inputs rest
    else if bytes_eq first (codes ".outputs") then Outputs rest
    else if bytes_eq first (codes ".clock") then Clock rest
    else if bytes_eq first (codes ".names") then names_directive rest
    else if bytes_eq first (codes ".latch") then latch_directive rest
    else if bytes_eq first (codes ".end") then End
    else Unknown

-- a row's last word
abbrev pub bit : Name → Option Bool
bit word = if bytes_eq word (codes "0") then Some false else if bytes_eq word (codes "1") then Some true else None

-- a character for each input and the output's bit, or that bit alone
unfoldable pub row_parts : Name → List Name → Option (List ℕ × Bool)
row_parts word [] = option_map (λ b. ([], b)) (bit word)
row_parts word (last ∷ []) = option_map (λ b. (word, b)) (bit last)
row_parts word (next ∷ last ∷ more) = None

unfoldable pub row : Line → Row
row line = record { line = line.number; parts = row_parts line.first line.rest }

-- the rows that the lines begin with
unfoldable pub leading_rows : List Line → List Row
leading_rows [] = []
leading_rows (line ∷ more) = if is_row line then row line ∷ leading_rows more else []

-- each directive with the rows right behind it; rows before any directive belong to none
unfoldable pub blocks : List Line → List (Block Name)
blocks [] = []
blocks (line ∷ more) =
    if is_row line then blocks more
    else record { line = line.number; directive = directive line.first line.rest; rows = leading_rows more } ∷ blocks more
