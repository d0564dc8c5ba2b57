-- What reading from a place of a file gives.
use Rattle.std.specs.Prelude.{◌≡◌, ◌↔◌, ℕ, ◌<◌, ◌≤◌, List, length, take, drop, Option, IfSome}

-- The front n bytes of the buffer are the file's bytes from place `at` on.
pub record ReadsFrom (file : List ℕ) (at n : ℕ) (buf : List ℕ) : Type 0 where
  pub bytes : take n buf ≡ take n (drop at file)
  -- a buffer with room gets none exactly where the place is the file's end or after it
  pub none : 0 < length buf → ((n ≡ 0) ↔ (length file ≤ at))

-- these bytes are a front of the file, where the shelf tells it
abbrev pub IsFrontOf : List ℕ → Option (List ℕ) → Type 0
IsFrontOf bytes told = IfSome told (λ file. bytes ≡ take (length bytes) file)
