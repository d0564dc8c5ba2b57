-- The tokens of a testbench, with the defined names replaced, or the refusal at the first place that has one.
use Rattle.std.specs.Prelude.{◌≡◌, ℕ, zero, suc, ◌+◌, ◌-◌, ◌==◌, ◌&&◌, nat_lt, Bool, true, false, if◌then◌else◌, List, [], ◌∷◌, ◌++◌, length, map, take, drop, is_none, Option, Some, None, Result, Ok, Err, unwrap_or}
use Rattle.std.specs.Str.{bytes_eq}
use Rattle.four_state.specs.declared.bit.Bit.{Bit}
use Rattle.vera_ast.specs.declared.token.Token.{Token}
use Rattle.vera_ast.specs.declared.token.TokenKind.{TokenKind}
use Rattle.vera_ast.specs.declared.token.TokenKind.TheVariants.{Word, Number, Str, Punct}
use Rattle.vera_ast.specs.declared.refusal.Refusal.{Refusal}
use Rattle.vera_lex.specs.Bytes.{is_blank}
use Rattle.vera_lex.specs.Forms.{Form, blank, comment, word, decimal, based, string, sign, sign_number, IsPiece}
use Rattle.vera_lex.specs.Literals.{literal_value}
use Rattle.vera_lex.specs.Directives.{Directive, include, define, opens_directive}
use Rattle.vera_lex.specs.Directives as dir
use Rattle.vera_lex.specs.Refusals.{fault}

-- ---- what stands at a place

-- what an escape means: `\n` a newline, `\t` a tab, and `\\` and `\"` the byte itself
abbrev pub meant : ℕ → ℕ
meant b = if b == 110 then 10 else (if b == 116 then 9 else b)

-- what the bytes between the two `"` of a string stand for; the flag says that a `\` stands before them
abbrev pub string_bytes : Bool → List ℕ → List ℕ
string_bytes escape [] = []
string_bytes true (b ∷ bs) = meant b ∷ string_bytes false bs
string_bytes false (b ∷ bs) = if b == 92 then string_bytes true bs else b ∷ string_bytes false bs

-- the literal at the front, which is known to have a value
abbrev pub number_at : List ℕ → List Bit
number_at text = unwrap_or (literal_value text) []

-- a piece: blanks and comments, a directive, or a token
pub data Piece : Type 0 where
  gap : Piece
  directive : Directive → Piece
  token : TokenKind → Piece

-- so many bytes of this form at the front are this piece
abbrev pub piece_at : Form → List ℕ → ℕ → Piece
piece_at blank text n = gap
piece_at comment text n = gap
piece_at word text n = token (Word (take n text))
piece_at decimal text n = token (Number (number_at text) true)
piece_at based text n = token (Number (number_at text) false)
piece_at string text n = token (Str (string_bytes false (take (n - 2) (drop 1 text))))
piece_at sign text n = token (Punct (unwrap_or (sign_number (take n text)) 0))

abbrev pub directive_piece : Option (Directive × ℕ) → Result (Piece × ℕ) ℕ
directive_piece None = Err 4
directive_piece (Some d) = Ok (directive d.0, d.1)

abbrev pub StandsUnless : Option ℕ → Bool → List ℕ → Result (Piece × ℕ) ℕ → Type 0
StandsUnless (Some code) opens text o = o ≡ Err code
StandsUnless None true text o = o ≡ directive_piece (dir.directive text)
StandsUnless None false text o = (form : Form) × (n : ℕ) × IsPiece text form n × (o ≡ Ok (piece_at form text n, n))

-- At the front of the text stands this piece of so many bytes, or a refusal by what the text begins with.
abbrev pub Stands : List ℕ → Result (Piece × ℕ) ℕ → Type 0
Stands text o = StandsUnless (fault text) (opens_directive text) text o

-- ---- names and lines

-- What the text before a place has given: the tokens, what each name stands for, the definition whose line it is (its
-- name and its tokens so far), the number of the line, and whether nothing but blanks stands on it yet.
pub record State : Type 0 where
  pub tokens : List Token
  pub meaning : List ℕ → Option (List TokenKind)
  pub defining : Option (List ℕ × List TokenKind)
  pub line : ℕ
  pub is_fresh : Bool

abbrev pub at_start : State
at_start = record { tokens = []; meaning = λ name. None; defining = None; line = 1; is_fresh = true }

abbrev pub newlines : List ℕ → ℕ
newlines [] = 0
newlines (b ∷ bs) = if b == 10 then suc (newlines bs) else newlines bs

-- whether nothing but blanks stands on the line behind these bytes
abbrev pub fresh_after : Bool → List ℕ → Bool
fresh_after fresh [] = fresh
fresh_after fresh (b ∷ bs) = fresh_after (if b == 10 then true else (fresh && is_blank b)) bs

-- with one more definition
abbrev pub defined : Option (List ℕ × List TokenKind) → (List ℕ → Option (List TokenKind)) → List ℕ → Option (List TokenKind)
defined None meaning = meaning
defined (Some d) meaning = λ name. if bytes_eq d.0 name then Some d.1 else meaning name

-- the same behind these bytes: a definition ends with its line
abbrev pub behind : List ℕ → State → State
behind w s = record {
  tokens = s.tokens;
  meaning = if newlines w == 0 then s.meaning else defined s.defining s.meaning;
  defining = if newlines w == 0 then s.defining else None;
  line = s.line + newlines w;
  is_fresh = fresh_after s.is_fresh w;
}

-- what a token is replaced by: a defined name by its tokens
abbrev pub replaced : (List ℕ → Option (List TokenKind)) → TokenKind → List TokenKind
replaced meaning (Word w) = unwrap_or (meaning w) (Word w ∷ [])
replaced meaning kind = kind ∷ []

abbrev pub on_line : ℕ → TokenKind → Token
on_line line kind = record { kind = kind; line = line }

abbrev pub most_tokens : ℕ
most_tokens = 1048576

abbrev pub most_defined : ℕ
most_defined = 16

-- the tokens get the line of the place; on the line of a definition they are its own
abbrev pub with_kinds_at : Option (List ℕ × List TokenKind) → List TokenKind → State → State
with_kinds_at None kinds s = record { tokens = s.tokens ++ map (on_line s.line) kinds; meaning = s.meaning; defining = None; line = s.line; is_fresh = s.is_fresh }
with_kinds_at (Some d) kinds s = record { tokens = s.tokens; meaning = s.meaning; defining = Some (d.0, d.1 ++ kinds); line = s.line; is_fresh = s.is_fresh }

abbrev pub with_kinds : List TokenKind → State → State
with_kinds kinds s = with_kinds_at s.defining kinds s

-- E04 where a definition gets more than 16 tokens, E05 where the text gets more than 1,048,576
abbrev pub too_many : Option (List ℕ × List TokenKind) → List Token → List TokenKind → Option ℕ
too_many None tokens kinds = if nat_lt most_tokens (length tokens + length kinds) then Some 5 else None
too_many (Some d) tokens kinds = if nat_lt most_defined (length d.1 + length kinds) then Some 4 else None

abbrev pub unless : Option ℕ → State → Result State ℕ
unless None s = Ok s
unless (Some code) s = Err code

-- The state with a piece, or the refusal that stands at it: E04 where a directive isn't the first thing on its line but
-- blanks, or a name is defined twice.
abbrev pub placed : State → Piece → Result State ℕ
placed s gap = Ok s
placed s (directive include) = if s.is_fresh then Ok s else Err 4
placed s (directive (define name)) =
    if s.is_fresh && is_none (s.meaning name)
    then Ok (record { tokens = s.tokens; meaning = s.meaning; defining = Some (name, []); line = s.line; is_fresh = s.is_fresh })
    else Err 4
placed s (token kind) = unless (too_many s.defining s.tokens (replaced s.meaning kind)) (with_kinds (replaced s.meaning kind) s)

-- ---- the whole text

abbrev pub refusal : ℕ → ℕ → Refusal
refusal code line = record { code = code; line = line }

-- what follows behind a piece, if no refusal stands there
abbrev pub Behind : (State → List ℕ → Result (List Token) Refusal → Type 0) → State → List ℕ → ℕ → Result State ℕ → Result (List Token) Refusal → Type 0
Behind rest s text n (Err code) r = r ≡ Err (refusal code s.line)
Behind rest s text n (Ok t) r = rest (behind (take n text) t) (drop n text) r

abbrev pub FromPlace : (State → List ℕ → Result (List Token) Refusal → Type 0) → State → List ℕ → Result (Piece × ℕ) ℕ → Result (List Token) Refusal → Type 0
FromPlace rest s text (Err code) r = r ≡ Err (refusal code s.line)
FromPlace rest s text (Ok p) r = Behind rest s text p.1 (placed s p.0) r

-- From this state on, so many pieces of the text are followed by its end or by the first refusal, and this is the result.
abbrev pub Lexed : ℕ → State → List ℕ → Result (List Token) Refusal → Type 0
Lexed pieces s [] r = r ≡ Ok s.tokens
Lexed zero s (b ∷ bs) r = ⊥
Lexed (suc pieces) s (b ∷ bs) r = (o : Result (Piece × ℕ) ℕ) × Stands (b ∷ bs) o × FromPlace (Lexed pieces) s (b ∷ bs) o r

-- This is the token list of the text, or its refusal.
abbrev pub IsLexed : List ℕ → Result (List Token) Refusal → Type 0
IsLexed bytes r = (pieces : ℕ) × Lexed pieces at_start bytes r
