-- The tokens of a testbench as they are read: each definition of Tokens again.
use Rattle.std.specs.Prelude.{ℕ, List, [], ◌∷◌, Option, Some, None, ◌==◌, if◌then◌else◌}
use Rattle.vera_ast.specs.declared.codes.TheConstants as code
use Rattle.vera_ast.specs.declared.token.Token.{Token}
use Rattle.parse_cursor.specs.declared.trees.Name.{Name}
use Rattle.parse_cursor.specs.declared.trees.Numeral.{Numeral}
use Rattle.parse_cursor.specs.Tokens.{kind_of, name_at, numeral_at}
use Rattle.grammar_laws.specs.declared.fault.Why.TheVariants.{Syntax}
use Rattle.grammar_laws.specs.Readers.{Parser, stop, ◌<$>◌, ◌>>=◌, and_then, pure}
use Rattle.grammar_laws.specs.Readers as readers

abbrev pub either : {A : Type 0} → List ℕ → Parser Token A → Parser Token A → Parser Token A
either codes p q = readers.either kind_of codes p q

abbrev pub many : {A : Type 0} → List ℕ → Parser Token A → Parser Token (List A)
many codes p = readers.many kind_of codes p

abbrev pub maybe : {A : Type 0} → List ℕ → Parser Token A → Parser Token (Option A)
maybe codes p = readers.maybe kind_of codes p

abbrev pub too_deep : {A : Type 0} → List ℕ → Parser Token A
too_deep codes = readers.too_deep kind_of codes

unfoldable pub word : ℕ → Parser Token ℕ
word c = (λ t. t.line) <$> readers.word kind_of c

unfoldable pub one_of : List ℕ → Parser Token Token
one_of [] = stop Syntax
one_of (c ∷ []) = readers.word kind_of c
one_of (c ∷ k ∷ more) = either (c ∷ []) (readers.word kind_of c) (one_of (k ∷ more))

-- the codes of a table
abbrev pub codes_of : {A : Type 0} → List (ℕ × A) → List ℕ
codes_of [] = []
codes_of (s ∷ more) = s.0 ∷ codes_of more

unfoldable pub sign : {A : Type 0} → List (ℕ × A) → Parser Token (ℕ × A)
sign [] = stop Syntax
sign (s ∷ []) = (λ line. (line, s.1)) <$> word s.0
sign (s ∷ t ∷ more) = either (s.0 ∷ []) ((λ line. (line, s.1)) <$> word s.0) (sign (t ∷ more))

unfoldable pub name_of : List ℕ → Parser Token Name
name_of codes = name_at <$> one_of codes

unfoldable pub name : Parser Token Name
name = name_at <$> readers.word kind_of code.NAME

unfoldable pub number : Parser Token Numeral
number = numeral_at <$> readers.word kind_of code.NUMBER

unfoldable pub string : Parser Token Name
string = name_at <$> readers.word kind_of code.STRING_LITERAL

-- what a quoted token of a table means
abbrev pub meaning_of : {A : Type 0} → List (ℕ × A) → ℕ → Option A
meaning_of [] c = None
meaning_of (s ∷ more) c = if s.0 == c then Some s.1 else meaning_of more c
