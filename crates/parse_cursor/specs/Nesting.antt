-- Function values that read from a cursor as a parser does.
use Rattle.std.specs.Prelude.{ℕ, List, Result, Ok, Err}
use Rattle.std.specs.declared.alloc.Global.{Global}
use Rattle.std.specs.Global.{Vec}
use denote.Ref.{MutBor}
use Rattle.vera_ast.specs.declared.token.Token.{Token}
use Rattle.parse_cursor.specs.declared.cursor.Cursor.{Cursor}
use Rattle.grammar_laws.specs.declared.fault.Fault.{Fault}
use Rattle.grammar_laws.specs.Readers.{Parser}
use Rattle.grammar_laws.specs.Nesting as nesting

abbrev pub left : Cursor → List Token
left c = c.rest.now

-- once or more often
abbrev pub Follows : {A : Type 0} → Parser Token A → (MutBor Cursor → Type 0) → (MutBor Cursor → Result A Fault → MutBor Cursor → Type 0) → Type 0
Follows p pre post = nesting.Follows {T = Token} left p pre post

-- with so many levels of depth left
abbrev pub Nests : {A : Type 0} → Parser Token A → ℕ → (Global → MutBor Cursor → ℕ → Type 0) → (Global → MutBor Cursor → ℕ → Result A Fault → MutBor Cursor → Type 0) → Type 0
Nests p depth pre post = nesting.Nests {T = Token} left p depth pre post

-- a vector that was read, as the list of its items
abbrev pub listed : {A : Type 0} → Result (Vec A) Fault → Result (List A) Fault
listed (Ok found) = Ok found.items
listed (Err fault) = Err fault
