-- What reading finds at the front of a text, from its first bytes on.
use Rattle.std.specs.Prelude.{ℕ, suc, ◌+◌, ◌-◌, ◌==◌, ◌||◌, ◌&&◌, nat_le, Bool, true, false, if◌then◌else◌, List, [], ◌∷◌, length, take, drop, slice_index, Option, Some, None, is_some, option_map, Result, Ok, Err}
use Rattle.four_state.specs.declared.bit.Bit.{Bit}
use Rattle.vera_ast.specs.declared.token.TokenKind.TheVariants.{Word, Number, Str, Punct}
use Rattle.vera_lex.specs.Bytes.{is_blank, is_digit, is_letter, opens_word, in_word, in_decimal, is_base, ends_line, is_escaped, run}
use Rattle.vera_lex.specs.Forms.{in_line, sign_number}
use Rattle.vera_lex.specs.Literals.{without_width, base_of, are_digits, decimal_value}
use Rattle.four_state.specs.Literals.{literal_of}
use Rattle.vera_lex.specs.Directives.{directive}
use Rattle.vera_lex.specs.Tokens.{Piece, gap, token, string_bytes, directive_piece}

-- so many more
abbrev pub more : ℕ → Result ℕ ℕ → Result ℕ ℕ
more k (Ok n) = Ok (k + n)
more k (Err code) = Err code

-- how many bytes a string has behind its first `"`
abbrev pub string_end : Bool → List ℕ → Result ℕ ℕ
string_end escape [] = Err (if escape then 1 else 2)
string_end true (b ∷ bs) = if is_escaped b then more 1 (string_end false bs) else Err 1
string_end false (b ∷ bs) = if b == 34 then Ok 1 else (if ends_line b then Err 2 else more 1 (string_end (b == 92) bs))

-- how many bytes a comment has behind its `/*`, after the byte before these
abbrev pub comment_end : ℕ → List ℕ → Option ℕ
comment_end before [] = None
comment_end before (b ∷ bs) = if before == 42 && b == 47 then Some 1 else option_map suc (comment_end b bs)

-- how many bytes the longest sign at the front has
unfoldable pub sign_length : List ℕ → ℕ
sign_length text =
    if nat_le 3 (length text) && is_some (sign_number (take 3 text)) then 3
    else (if nat_le 2 (length text) && is_some (sign_number (take 2 text)) then 2
    else (if nat_le 1 (length text) && is_some (sign_number (take 1 text)) then 1 else 0))

abbrev pub signed : ℕ → Option ℕ → Result (Piece × ℕ) ℕ
signed n None = Err 1
signed n (Some number) = Ok (token (Punct number), n)

unfoldable pub sign_front : List ℕ → Result (Piece × ℕ) ℕ
sign_front text = signed (sign_length text) (sign_number (take (sign_length text) text))

abbrev pub commented : Option ℕ → Result (Piece × ℕ) ℕ
commented None = Err 2
commented (Some n) = Ok (gap, 2 + n)

unfoldable pub comment_front : List ℕ → Result (Piece × ℕ) ℕ
comment_front text = commented (comment_end 0 (drop 2 text))

abbrev pub quoted : List ℕ → Result ℕ ℕ → Result (Piece × ℕ) ℕ
quoted bs (Err code) = Err code
quoted bs (Ok n) = Ok (token (Str (string_bytes false (take (suc n - 2) bs))), suc n)

unfoldable pub string_front : List ℕ → Result (Piece × ℕ) ℕ
string_front text = quoted (drop 1 text) (string_end false (drop 1 text))

abbrev pub numbered : Bool → ℕ → Option (List Bit) → Result (Piece × ℕ) ℕ
numbered is_decimal n None = Err 3
numbered is_decimal n (Some bits) = Ok (token (Number bits is_decimal), n)

-- a based literal of a width and a base, and what stands behind the base
unfoldable pub based_front : List ℕ → ℕ → List ℕ → Result (Piece × ℕ) ℕ
based_front width base bs =
    if are_digits base (take (run in_word bs) bs)
    then numbered false (length width + 2 + run in_word bs)
    (if length width == 0 then without_width base (take (run in_word bs) bs) else literal_of (decimal_value width) base (take (run in_word bs) bs))
    else Err 1

unfoldable pub number_front : List ℕ → Result (Piece × ℕ) ℕ
number_front text =
    if slice_index text (run in_decimal text) == 39 && is_base (slice_index text (run in_decimal text + 1))
    then based_front (take (run in_decimal text) text) (base_of (slice_index text (run in_decimal text + 1))) (drop (run in_decimal text + 2) text)
    else (if run in_decimal text == 0 then Err 1 else numbered true (run in_decimal text) (without_width 10 (take (run in_decimal text) text)))

unfoldable pub word_front : List ℕ → Result (Piece × ℕ) ℕ
word_front text = Ok (token (Word (take (run in_word text) text)), run in_word text)

-- what begins with none of the bytes of `front`
unfoldable pub other_front : List ℕ → Result (Piece × ℕ) ℕ
other_front text =
    if slice_index text 0 == 47 && slice_index text 1 == 42 then comment_front text
    else (if slice_index text 0 == 47 && slice_index text 1 == 47 then Ok (gap, run in_line text)
    else (if slice_index text 0 == 35 && is_letter (slice_index text 1) then directive_piece (directive text)
    else sign_front text))

-- by the first two bytes
unfoldable pub front : List ℕ → Result (Piece × ℕ) ℕ
front text =
    if is_blank (slice_index text 0) then Ok (gap, 1)
    else (if opens_word (slice_index text 0) then word_front text
    else (if is_digit (slice_index text 0) || slice_index text 0 == 39 then number_front text
    else (if slice_index text 0 == 34 then string_front text else other_front text)))
