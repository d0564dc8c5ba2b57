-- The report of a run, and its status.
use Rattle.std.specs.Prelude.{ℕ, ◌==◌, nat_lt, Bool, false, not, List, [], ◌∷◌, ◌++◌, map, length, Option, Some, None, slice_get, codes, decimal, if◌then◌else◌}
use Rattle.four_state.specs.Texts.{binary_text}
use Rattle.vera_ast.specs.Signals.{NamedSignal}
use Rattle.run_rules.specs.Drives.{Drive}
use Rattle.run_rules.specs.declared.status.Status.{Status}
use Rattle.run_rules.specs.declared.status.Status.TheVariants as statuses
use Rattle.run_rules.specs.States.{State, End, Finished, Limit, Fault, SpentSlice, SpentTurns}

abbrev pub newline : List ℕ
newline = 10 ∷ []

-- whether a text ends within a line: it isn't empty, and its last byte is no newline
abbrev pub ends_within_line : List ℕ → Bool
ends_within_line [] = false
ends_within_line (b ∷ []) = not (b == 10)
ends_within_line (b ∷ c ∷ bytes) = ends_within_line (c ∷ bytes)

-- the printed text with its length, and a newline behind it where it lacks one
abbrev pub text_section : List ℕ → List ℕ
text_section printed =
    codes "text " ++ decimal (length printed) ++ newline ++ printed ++ (if ends_within_line printed then newline else [])

-- the lines of a list
abbrev pub lines : List (List ℕ) → List ℕ
lines [] = []
lines (l ∷ ls) = l ++ newline ++ lines ls

-- a list of lines with its name and its length
abbrev pub list_section : List ℕ → List (List ℕ) → List ℕ
list_section name ls = name ++ codes " " ++ decimal (length ls) ++ newline ++ lines ls

-- a number below 100 with two digits
abbrev pub two_digits : ℕ → List ℕ
two_digits n = (if nat_lt n 10 then codes "0" else []) ++ decimal n

-- a signal's name behind that of its interface
abbrev pub signal_name : Option NamedSignal → List ℕ
signal_name None = []
signal_name (Some s) = s.interface ++ codes "." ++ s.signal.name

-- a drive: its cycle, its signal, and its bits, the highest first
abbrev pub drive_line : List NamedSignal → Drive → List ℕ
drive_line signals d = decimal d.cycle ++ codes " " ++ signal_name (slice_get signals d.signal) ++ codes " = " ++ binary_text d.bits

-- how a run ended, in words
abbrev pub end_words : End → List ℕ
end_words Finished = codes "finished"
end_words Limit = codes "limit"
end_words (Fault code line) = codes "fault F" ++ two_digits code ++ codes " line " ++ decimal line
end_words SpentSlice = codes "spent slice"
end_words SpentTurns = codes "spent turns"

abbrev pub end_line : End → ℕ → List ℕ
end_line end cycle = codes "end " ++ end_words end ++ codes " cycle " ++ decimal cycle ++ newline

-- The report: the text, the drives, the verdicts, the coverage, and the end. No testbench expects or covers anything
-- yet.
unfoldable pub report_text : List NamedSignal → (printed : List ℕ) → (drives : List Drive) → End → (cycle : ℕ) → List ℕ
report_text signals printed drives end cycle =
    text_section printed ++ list_section (codes "drives") (map (drive_line signals) drives) ++ list_section (codes "verdicts") [] ++ list_section (codes "coverage") [] ++ end_line end cycle

abbrev pub report_of : {R : Type 0} → List NamedSignal → State R → End → List ℕ
report_of signals s end = report_text signals s.printed s.applied end s.cycle

abbrev pub status_of : End → Status
status_of Finished = statuses.Passed
status_of Limit = statuses.Passed
status_of (Fault code line) = statuses.Fault
status_of SpentSlice = statuses.Spent
status_of SpentTurns = statuses.Spent
