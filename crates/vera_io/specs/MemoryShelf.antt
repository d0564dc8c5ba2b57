-- A shelf in memory, as contracts see it.
use Rattle.std.specs.Prelude.{ℕ, ◌==◌, Bool, not, ◌&&◌, if◌then◌else◌, List, map, Option, is_some, Vec}
use Rattle.std.specs.List.{find, list_any}
use Rattle.std.specs.Option.{option_map}
use Rattle.std.specs.Str.{bytes_eq}
use Rattle.std.specs.declared.alloc.Global.{Global}
use Rattle.vera_io.specs.Faults.{capped, raised}

pub record ShelfState : Type 0 where
  -- each file's name and bytes
  pub files : List (List ℕ × List ℕ)
  -- the numbers of the calls that fail
  pub failing : List ℕ
  -- how many calls there were
  pub calls : ℕ
  -- the faults of each name that has a file
  pub found_faults : ℕ
  -- the faults of each name that has none
  pub missing_faults : ℕ

-- names and bytes, out of a vector's pairs
abbrev pub contents_of : List (List ℕ × Vec ℕ Global) → List (List ℕ × List ℕ)
contents_of files = map (λ file. (file.0, file.1.items)) files

-- the bytes of the first file of this name
abbrev pub file_of : List (List ℕ × List ℕ) → List ℕ → Option (List ℕ)
file_of files name = option_map (λ file. file.1) (find (λ file. bytes_eq file.0 name) files)

-- how often reading this name has failed
abbrev pub fault_count : ShelfState → List ℕ → ℕ
fault_count shelf name = capped (if is_some (file_of shelf.files name) then shelf.found_faults else shelf.missing_faults)

-- the next call is one of those that are to fail
abbrev pub is_due : ShelfState → Bool
is_due shelf = list_any (λ number. number == raised shelf.calls) shelf.failing

-- the next call, for this name, reads
abbrev pub can_read : ShelfState → List ℕ → Bool
can_read shelf name = not (is_due shelf) && is_some (file_of shelf.files name)

-- The shelf after a call for this name. The call is counted. In one that is to fail the count of every name rises,
-- in another one for a name without a file the counts of just such names.
abbrev pub after_call : ShelfState → List ℕ → ShelfState
after_call shelf name = record {
  files = shelf.files;
  failing = shelf.failing;
  calls = raised shelf.calls;
  found_faults = if is_due shelf then raised shelf.found_faults else shelf.found_faults;
  missing_faults = if can_read shelf name then shelf.missing_faults else raised shelf.missing_faults;
}
