-- What each blank, comment and token of a testbench looks like, and the longest one at a place (OpenVera manual,
-- "Lexical elements").
use Rattle.std.specs.Prelude.{◌≡◌, ℕ, ◌<◌, ◌≤◌, ◌==◌, ◌||◌, ◌&&◌, not, Bool, true, false, if◌then◌else◌, List, [], ◌∷◌, length, take, is_some, position, Option}
use Rattle.std.specs.Str.{bytes_eq}
use Rattle.vera_ast.specs.Signs.{signs}
use Rattle.vera_lex.specs.Bytes.{is_blank, is_digit, opens_word, in_word, in_decimal, is_base, ends_line, is_escaped, all, led}

pub data Form : Type 0 where
  blank : Form
  comment : Form
  word : Form
  decimal : Form
  based : Form
  string : Form
  sign : Form

abbrev pub is_empty : List ℕ → Bool
is_empty [] = true
is_empty (b ∷ bs) = false

abbrev pub one_blank : List ℕ → Bool
one_blank [] = false
one_blank (b ∷ bs) = is_blank b && is_empty bs

abbrev pub in_line : ℕ → Bool
in_line b = not (b == 10)

-- what ends with its first `*/`
abbrev pub closes : List ℕ → Bool
closes [] = false
closes (a ∷ []) = false
closes (a ∷ b ∷ bs) = if a == 42 && b == 47 then is_empty bs else closes (b ∷ bs)

-- `//` and what follows on the line, or `/*` up to the first `*/` behind it
abbrev pub is_comment : List ℕ → Bool
is_comment [] = false
is_comment (a ∷ []) = false
is_comment (a ∷ b ∷ bs) = a == 47 && ((b == 47 && all in_line bs) || (b == 42 && closes bs))

-- `'`, a base, and letters, digits and `_`
abbrev pub after_width : List ℕ → Bool
after_width [] = false
after_width (a ∷ []) = false
after_width (a ∷ b ∷ bs) = a == 39 && is_base b && all in_word bs

abbrev pub has_width : List ℕ → Bool
has_width [] = false
has_width (b ∷ bs) = if in_decimal b then has_width bs else after_width (b ∷ bs)

-- a based literal, with or without a width; a letter or digit that is none of the base belongs to it, as a wrong digit
abbrev pub is_based : List ℕ → Bool
is_based [] = false
is_based (b ∷ bs) = if is_digit b then has_width bs else after_width (b ∷ bs)

-- the bytes of a string behind its first `"`, up to the other one, on one line and with the listed escapes; the flag says
-- that a `\` stands before them
abbrev pub ends_string : Bool → List ℕ → Bool
ends_string escape [] = false
ends_string true (b ∷ bs) = is_escaped b && ends_string false bs
ends_string false (b ∷ bs) = if b == 34 then is_empty bs else not (ends_line b) && ends_string (b == 92) bs

abbrev pub is_string : List ℕ → Bool
is_string [] = false
is_string (b ∷ bs) = b == 34 && ends_string false bs

-- the number of a sign
abbrev pub sign_number : List ℕ → Option ℕ
sign_number w = position (λ s. bytes_eq s w) signs

-- whether a whole piece has a form
abbrev pub has : Form → List ℕ → Bool
has blank w = one_blank w
has comment w = is_comment w
has word w = led opens_word in_word w
has decimal w = led is_digit in_decimal w
has based w = is_based w
has string w = is_string w
has sign w = is_some (sign_number w)

-- so many bytes at the front have the form, and no longer front has any form
pub record IsPiece (text : List ℕ) (form : Form) (n : ℕ) : Type 0 where
  pub formed : has form (take n text) ≡ true
  pub within : n ≤ length text
  pub longest : (other : Form) (m : ℕ) → n < m → m ≤ length text → has other (take m text) ≡ false
