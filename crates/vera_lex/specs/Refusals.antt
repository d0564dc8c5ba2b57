-- What is refused at a place of the text whatever stands before it.
use Rattle.std.specs.Prelude.{ℕ, ◌==◌, ◌&&◌, ◌||◌, not, Bool, true, false, if◌then◌else◌, List, [], ◌∷◌, drop, slice_index, Option, Some, None, is_none}
use Rattle.std.specs.List.{list_any}
use Rattle.vera_ast.specs.Signs.{signs}
use Rattle.vera_lex.specs.Bytes.{is_blank, is_digit, opens_word, ends_line, is_escaped}
use Rattle.vera_lex.specs.Literals.{opens_based, base, based_digits, are_digits, literal_value}

-- some sign begins with the byte
abbrev pub opens_sign : ℕ → Bool
opens_sign b = list_any (λ s. slice_index s 0 == b) signs

-- E01: the first byte begins no blank, comment, directive or token
abbrev pub begins_nothing : List ℕ → Bool
begins_nothing text = not (is_blank (slice_index text 0) || opens_word (slice_index text 0) || is_digit (slice_index text 0) || slice_index text 0 == 34
    || opens_sign (slice_index text 0) || opens_based text)

-- the bytes of a string behind its first `"`: an escape that isn't listed comes before the string's end; the flag says
-- that a `\` stands before them
abbrev pub bad_escape : Bool → List ℕ → Bool
bad_escape escape [] = escape
bad_escape true (b ∷ bs) = not (is_escaped b) || bad_escape false bs
bad_escape false (b ∷ bs) = not (b == 34) && not (ends_line b) && bad_escape (b == 92) bs

-- E01: an escape of a string isn't listed
abbrev pub has_bad_escape : List ℕ → Bool
has_bad_escape text = slice_index text 0 == 34 && bad_escape false (drop 1 text)

-- E01: a based literal has no digit, or a wrong one
abbrev pub has_bad_digits : List ℕ → Bool
has_bad_digits text = opens_based text && not (are_digits (base text) (based_digits text))

-- the same bytes: the string is closed on its line
abbrev pub is_closed : Bool → List ℕ → Bool
is_closed escape [] = false
is_closed true (b ∷ bs) = is_closed false bs
is_closed false (b ∷ bs) = b == 34 || (not (ends_line b) && is_closed (b == 92) bs)

-- E02: a string isn't closed on its line
abbrev pub is_open_string : List ℕ → Bool
is_open_string text = slice_index text 0 == 34 && not (is_closed false (drop 1 text))

-- a `*/` stands somewhere
abbrev pub has_end : List ℕ → Bool
has_end [] = false
has_end (a ∷ []) = false
has_end (a ∷ b ∷ bs) = (a == 42 && b == 47) || has_end (b ∷ bs)

-- E02: a comment isn't closed
abbrev pub is_open_comment : List ℕ → Bool
is_open_comment text = slice_index text 0 == 47 && slice_index text 1 == 42 && not (has_end (drop 2 text))

-- E03: the literal's width isn't 1 to 128, or it needs too many bits
abbrev pub is_too_wide : List ℕ → Bool
is_too_wide text = (is_digit (slice_index text 0) || opens_based text) && is_none (literal_value text)

abbrev pub is_e01 : List ℕ → Bool
is_e01 text = begins_nothing text || has_bad_escape text || has_bad_digits text

abbrev pub is_e02 : List ℕ → Bool
is_e02 text = is_open_string text || is_open_comment text

-- the lowest number of E01 to E03 that stands at the front of a text
unfoldable pub fault : List ℕ → Option ℕ
fault text = if is_e01 text then Some 1 else (if is_e02 text then Some 2 else (if is_too_wide text then Some 3 else None))
