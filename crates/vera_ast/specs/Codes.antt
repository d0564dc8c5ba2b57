-- The number of a token's kind.
use Rattle.std.specs.Prelude.{ℕ, suc, nat_lt, if◌then◌else◌, List, [], ◌∷◌}
use Rattle.std.specs.Str.{bytes_eq}
use Rattle.vera_ast.specs.declared.token.TokenKind.{TokenKind}
use Rattle.vera_ast.specs.declared.token.TokenKind.TheVariants.{Word, Number, Str, Punct}
use Rattle.vera_ast.specs.declared.codes.TheConstants as code
use Rattle.vera_ast.specs.Words.{reserved_words}

-- the number of a word in a list of reserved words that are numbered from a number on; other words are names
abbrev pub number_from : ℕ → List (List ℕ) → List ℕ → ℕ
number_from n [] w = code.NAME
number_from n (x ∷ xs) w = if bytes_eq x w then n else number_from (suc n) xs w

unfoldable pub word_code : List ℕ → ℕ
word_code w = number_from code.FIRST_WORD reserved_words w

-- a sign by its number in the table of signs
abbrev pub sign_code : ℕ → ℕ
sign_code n = if nat_lt n code.NAME then n else code.NO_SIGN

abbrev pub code_of : TokenKind → ℕ
code_of (Word w) = word_code w
code_of (Number value is_decimal) = code.NUMBER
code_of (Str s) = code.STRING_LITERAL
code_of (Punct n) = sign_code n
