-- The tokens of a testbench as its grammar speaks of them, by the numbers of their kinds. A quoted token's value is its line; a name, a string and
-- a number have a line and what they stand for.
use Rattle.std.specs.Prelude.{ℕ, false, List, [], ◌∷◌, Option}
use Rattle.four_state.specs.Bits.{all_x}
use Rattle.vera_ast.specs.declared.codes.TheConstants as code
use Rattle.vera_ast.specs.declared.token.Token.{Token}
use Rattle.vera_ast.specs.declared.token.TokenKind.{TokenKind}
use Rattle.vera_ast.specs.declared.token.TokenKind.TheVariants.{Word, Number, Str, Punct}
use Rattle.vera_ast.specs.declared.tree.expressions.Number.{Number as Literal}
use Rattle.vera_ast.specs.Codes.{code_of}
use Rattle.parse_cursor.specs.declared.trees.Name.{Name}
use Rattle.parse_cursor.specs.declared.trees.Numeral.{Numeral}
use Rattle.grammar_laws.specs.Languages.{Lang, ◌<$>◌, ◌<|>◌}
use Rattle.grammar_laws.specs.Languages as languages

abbrev pub kind_of : Token → ℕ
kind_of t = code_of t.kind

-- the bytes of a word or a string; other tokens have none
abbrev pub text_of : TokenKind → List ℕ
text_of (Word text) = text
text_of (Str text) = text
text_of (Number value is_decimal) = []
text_of (Punct n) = []

-- the value of a number literal; for any other token, of which it isn't asked, one x
abbrev pub literal_of : TokenKind → Literal
literal_of (Number value is_decimal) = record { value = value; is_decimal = is_decimal }
literal_of (Word text) = record { value = all_x 1; is_decimal = false }
literal_of (Str text) = record { value = all_x 1; is_decimal = false }
literal_of (Punct n) = record { value = all_x 1; is_decimal = false }

abbrev pub name_at : Token → Name
name_at t = record { line = t.line; text = text_of t.kind }

abbrev pub numeral_at : Token → Numeral
numeral_at t = record { line = t.line; number = literal_of t.kind }

-- a quoted token, by its line
unfoldable pub word : ℕ → Lang Token ℕ
word c = (λ t. t.line) <$> languages.word kind_of c

-- a token with one of these codes
unfoldable pub one_of : List ℕ → Lang Token Token
one_of [] = λ d w rest t. ⊥
one_of (c ∷ []) = languages.word kind_of c
one_of (c ∷ k ∷ more) = languages.word kind_of c <|> one_of (k ∷ more)

-- one of these quoted tokens, each with its meaning: its line and its meaning
unfoldable pub sign : {A : Type 0} → List (ℕ × A) → Lang Token (ℕ × A)
sign [] = λ d w rest x. ⊥
sign (s ∷ []) = (λ line. (line, s.1)) <$> word s.0
sign (s ∷ t ∷ more) = ((λ line. (line, s.1)) <$> word s.0) <|> sign (t ∷ more)

-- one of these words, as a name
unfoldable pub name_of : List ℕ → Lang Token Name
name_of codes = name_at <$> one_of codes

-- a word that isn't reserved
unfoldable pub name : Lang Token Name
name = name_at <$> languages.word kind_of code.NAME

-- a number literal
unfoldable pub number : Lang Token Numeral
number = numeral_at <$> languages.word kind_of code.NUMBER

unfoldable pub string : Lang Token Name
string = name_at <$> languages.word kind_of code.STRING_LITERAL

-- [ l ], which is there where a token follows with which it could begin
abbrev pub nearest : {A : Type 0} → List ℕ → Lang Token A → Lang Token (Option A)
nearest codes l = languages.nearest kind_of codes l
