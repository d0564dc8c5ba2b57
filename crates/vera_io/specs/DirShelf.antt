-- A shelf of the system's files, as contracts see it.
use Rattle.std.specs.Prelude.{◌≡◌, ℕ, ◌+◌, ◌==◌, nat_le, if◌then◌else◌, List, length, Option, None, Some, IfSome}
use Rattle.vera_io.specs.Faults.{capped}

pub record DirState : Type 0 where
  -- how many calls failed
  pub faults : ℕ
  -- the file that is kept open, if there is one: its name, and the place that it stands at
  pub kept : Option (List ℕ × ℕ)

-- the file of this name is kept at this place, unless the name is longer than 4096 bytes
abbrev pub kept_of : List ℕ → ℕ → Option (List ℕ × ℕ)
kept_of name place = if nat_le (length name) 4096 then Some (name, place) else None

-- What is kept after a call that read so many bytes of this file from a place on: the file, behind these bytes. Nothing is
-- kept after a call that read none, as at the file's end, or that failed. A place stands still at 2^64 - 1.
abbrev pub kept_after : List ℕ → ℕ → Option ℕ → Option (List ℕ × ℕ)
kept_after name at None = None
kept_after name at (Some count) = if count == 0 then None else kept_of name (capped (at + count))

-- The file is one that was opened and moved to this place. Where it told its position before, it stands there now.
abbrev pub MovedTo : {F : Type 0} → (F → Option ℕ) → ℕ → F → Type 0
MovedTo {F} position place file = (opened : F) × IfSome (position opened) (λ _. position file ≡ Some place)
