-- Digits read from the first one on, as words.
use Rattle.std.specs.Prelude.{◌≡◌, ℕ, ◌+◌, ◌-◌, ◌*◌, ◌<◌, ◌≤◌, ◌^◌, ◌⊎◌, ◌&&◌, nat_lt, List, [], ◌∷◌, Option, Some, None, if◌then◌else◌}
use Rattle.std.specs.Char.{digit_value, is_digit}
use Rattle.four_state.specs.Literals.{digit_bits}
use Rattle.four_state.specs.Words.{bits_of}

-- the words are those of the digit
pub record IsDigit (places digit ones unknown : ℕ) : Type 0 where
  pub bits : digit_bits places digit ≡ Some (bits_of places ones unknown)
  pub ones_fit : ones < 2 ^ places
  pub unknown_fit : unknown < 2 ^ places

-- the words after one more digit
pub record Follows (places digit ones unknown ones' unknown' : ℕ) : Type 0 where
  pub one : ℕ
  pub x : ℕ
  pub digit_is : IsDigit places digit one x
  pub ones_is : ones' ≡ ones * 2 ^ places + one
  pub unknown_is : unknown' ≡ unknown * 2 ^ places + x
  pub ones_fit : ones' < 2 ^ 128
  pub unknown_fit : unknown' < 2 ^ 128

-- it is no digit, or one more place would be lost
abbrev pub CannotFollow : ℕ → ℕ → ℕ → ℕ → Type 0
CannotFollow places digit ones unknown =
    (digit_bits places digit ≡ None) ⊎ ((2 ^ (128 - places) ≤ ones) ⊎ (2 ^ (128 - places) ≤ unknown))

-- a single digit
abbrev pub only_of : List ℕ → Option ℕ
only_of [] = None
only_of (c ∷ []) = Some c
only_of (c ∷ d ∷ rest) = None

-- the number after one more decimal digit
abbrev pub decimal_step : ℕ → ℕ → Option ℕ
decimal_step digit number =
    if is_digit digit 10 && nat_lt (number * 10 + digit_value digit) (2 ^ 128) then Some (number * 10 + digit_value digit)
    else None
