-- Pieces and states as contracts see them.
use Rattle.std.specs.Prelude.{◌≡◌, ◌==◌, if◌then◌else◌, ℕ, false, take, option_map, Vec, List, Option, Some, None, Result, Ok, Err}
use Rattle.std.specs.HashMap.{get_by}
use Rattle.std.specs.Str.{bytes_eq}
use Rattle.vera_ast.specs.declared.token.Token.{Token}
use Rattle.vera_ast.specs.declared.token.TokenKind.{TokenKind}
use Rattle.vera_ast.specs.declared.token.TokenKind.TheVariants.{Word, Number, Str, Punct}
use Rattle.vera_ast.specs.declared.refusal.FrontError.{FrontError}
use Rattle.vera_ast.specs.declared.refusal.FrontError.TheVariants.{Refused, NoMemory}
use Rattle.vera_lex.specs.Directives.{include, define}
use Rattle.vera_lex.specs.Tokens.{Piece, gap, directive, token, string_bytes, State, placed, behind, defined, replaced, unless, too_many, with_kinds, IsLexed}
use Rattle.std.specs.declared.alloc.Global.{Global}
use Rattle.vera_lex.specs.Reading.{front}
use Rattle.vera_lex.specs.declared.lexer.Lexer.{Lexer}
use Rattle.vera_lex.specs.declared.lexer.Definition.{Definition}
use Rattle.vera_lex.specs.declared.piece.Piece as p
use Rattle.vera_lex.specs.declared.piece.Piece.TheVariants as v
use Rattle.vera_lex.specs.declared.piece.Found.{Found}

abbrev pub seen : p.Piece → Piece
seen v.Gap = gap
seen v.Include = directive include
seen (v.Define name) = directive (define name.now)
seen (v.Word w) = token (Word w.now)
seen (v.Number bits is_decimal) = token (Number bits is_decimal)
seen (v.Str inner) = token (Str (string_bytes false inner.now))
seen (v.Sign number) = token (Punct number)

-- what is found at the front, or the number of the refusal
abbrev pub found : Result Found ℕ → Result (Piece × ℕ) ℕ
found (Ok f) = Ok (seen f.piece, f.count)
found (Err code) = Err code

-- the definition whose line it is
abbrev pub seen_definition : Option Definition → Option (List ℕ × List TokenKind)
seen_definition None = None
seen_definition (Some d) = Some (d.name.now, d.kinds.items)

-- what the lexer holds is this state
pub record Shows (l : Lexer) (s : State) : Type 0 where
  pub tokens : l.tokens.items ≡ s.tokens
  pub meaning : (q : List ℕ) → option_map (λ ks. ks.items) (get_by (λ k. bytes_eq q k.now) l.names) ≡ s.meaning q
  pub defining : seen_definition l.defining ≡ s.defining
  pub line : l.line ≡ s.line
  pub is_fresh : l.is_fresh ≡ s.is_fresh

-- the state after a call, where it gives one in the definition; the refusal of a line, where it doesn't; nothing is said
-- of want of memory
abbrev pub Becomes : ℕ → Lexer → Result State ℕ → Result (Unit {0}) FrontError → Type 0
Becomes line new (Ok t) (Ok _) = Shows new t
Becomes line new (Err code) (Ok _) = ⊥
Becomes line new (Ok t) (Err (Refused r)) = ⊥
Becomes line new (Err code) (Err (Refused r)) = r ≡ record { code = code; line = line }
Becomes line new o (Err NoMemory) = Unit {0}

-- a piece taken
abbrev pub Takes : Lexer → Piece → Lexer → Result (Unit {0}) FrontError → Type 0
Takes old piece new r = (s : State) → Shows old s → Becomes s.line new (placed s piece) r

-- the tokens of a place added
abbrev pub Adds : Lexer → List TokenKind → Lexer → Result (Unit {0}) FrontError → Type 0
Adds old kinds new r = (s : State) → Shows old s → Becomes s.line new (unless (too_many s.defining s.tokens kinds) (with_kinds kinds s)) r

-- the state with its definition ended, where there are newlines
abbrev pub ended : ℕ → State → State
ended lines s = record {
  tokens = s.tokens;
  meaning = if lines == 0 then s.meaning else defined s.defining s.meaning;
  defining = if lines == 0 then s.defining else None;
  line = s.line;
  is_fresh = s.is_fresh;
}

abbrev pub Ends : Lexer → ℕ → Lexer → Result (Unit {0}) FrontError → Type 0
Ends old lines new r = (s : State) → Shows old s → Becomes s.line new (Ok (ended lines s)) r

-- the state behind bytes
abbrev pub GoesBehind : Lexer → List ℕ → Lexer → Result (Unit {0}) FrontError → Type 0
GoesBehind old w new r = (s : State) → Shows old s → Becomes s.line new (Ok (behind w s)) r

-- what a word is replaced by
abbrev pub IsMeaning : Lexer → List ℕ → List TokenKind → Type 0
IsMeaning l w kinds = (s : State) → Shows l s → replaced s.meaning (Word w) ≡ kinds

-- one step: the state behind the piece at the front and how many bytes it has, or the refusal there
abbrev pub AfterPiece : State → List ℕ → ℕ → Result State ℕ → Result (State × ℕ) ℕ
AfterPiece s text n (Err code) = Err code
AfterPiece s text n (Ok t) = Ok (behind (take n text) t, n)

abbrev pub next_of : State → List ℕ → Result (Piece × ℕ) ℕ → Result (State × ℕ) ℕ
next_of s text (Err code) = Err code
next_of s text (Ok p) = AfterPiece s text p.1 (placed s p.0)

abbrev pub next : State → List ℕ → Result (State × ℕ) ℕ
next s text = next_of s text (front text)

abbrev pub IsNext : ℕ → Lexer → Result (State × ℕ) ℕ → Result ℕ FrontError → Type 0
IsNext line new (Ok t) (Ok n) = Shows new t.0 × (t.1 ≡ n)
IsNext line new (Err code) (Ok n) = ⊥
IsNext line new (Ok t) (Err (Refused r)) = ⊥
IsNext line new (Err code) (Err (Refused r)) = r ≡ record { code = code; line = line }
IsNext line new o (Err NoMemory) = Unit {0}

abbrev pub Steps : Lexer → List ℕ → Lexer → Result ℕ FrontError → Type 0
Steps old text new r = (s : State) → Shows old s → IsNext s.line new (next s text) r

-- what is answered of a text
abbrev pub IsAnswer : List ℕ → Result (Vec Token Global) FrontError → Type 0
IsAnswer bytes (Ok tokens) = IsLexed bytes (Ok tokens.items)
IsAnswer bytes (Err (Refused r)) = IsLexed bytes (Err r)
IsAnswer bytes (Err NoMemory) = Unit {0}
