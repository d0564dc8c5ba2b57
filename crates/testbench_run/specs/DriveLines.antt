-- The lines of drives, where the names of the signals are known by their numbers.
use Rattle.std.specs.Prelude.{ℕ, List, [], ◌++◌, map, slice_index_or, codes, decimal}
use Rattle.four_state.specs.Texts.{binary_text}
use Rattle.run_rules.specs.declared.drive.Drive.{Drive}
use Rattle.run_rules.specs.Reports.{lines}

-- the name of a signal's number; a number that is no signal's has none
abbrev pub named : List (List ℕ) → ℕ → List ℕ
named names signal = slice_index_or names signal []

abbrev pub named_drive_line : List (List ℕ) → Drive → List ℕ
named_drive_line names d = decimal d.cycle ++ codes " " ++ named names d.signal ++ codes " = " ++ binary_text d.bits

abbrev pub named_drive_lines : List (List ℕ) → List Drive → List ℕ
named_drive_lines names drives = lines (map (named_drive_line names) drives)
