-- What is answered to tokens: their tree, or why they are refused and on which line.
use Rattle.std.specs.Prelude.{◌≡◌, ℕ, ◌⊎◌, List, Result, Ok, Err}
use Rattle.grammar_laws.specs.Answers as answers
use Rattle.grammar_laws.specs.Answers.{Derived}
use Rattle.grammar_laws.specs.Lines as lines
use Rattle.grammar_laws.specs.Words.{Cell}
use Rattle.vera_ast.specs.declared.refusal.FrontError.{FrontError}
use Rattle.vera_ast.specs.declared.refusal.FrontError.TheVariants.{Refused, NoMemory}
use Rattle.vera_ast.specs.declared.refusal.Refusal.{Refusal}
use Rattle.vera_ast.specs.declared.token.Token.{Token}
use Rattle.vera_ast.specs.declared.tree.items.Tree.{Tree}
use Rattle.vera_parse.specs.Grammar.{file}

-- the number of productions `stmt`, `expr` and `unary` that a token may lie in
abbrev pub limit : ℕ
limit = 200

-- tokens with their depths are a file with this tree
abbrev pub IsFile : List (Cell Token) → Tree → Type 0
IsFile = Derived file

-- the tokens are a file with this tree, none of them deeper than the limit
abbrev pub Parses : List Token → Tree → Type 0
Parses ts tree = answers.Parses IsFile limit ts tree

-- the line of the token at which so many are left; at the end that of the last token, and 1 where there is no token
abbrev pub line_at : List Token → ℕ → ℕ
line_at ts left = lines.line_at (λ (t : Token). t.line) ts left

-- E10: some file begins with the tokens before this place and has none of these too deep, and no file begins with these and the next one; at the
-- end of the tokens, they are no file
abbrev pub IsSyntax : List Token → Refusal → Type 0
IsSyntax ts r = (r.code ≡ 10) × ((left : ℕ) × answers.IsSyntaxPlace IsFile limit ts left × (r.line ≡ line_at ts left))

-- E11: the first token that is too deep in each file that begins with the tokens up to the syntax place
abbrev pub IsDepth : List Token → Refusal → Type 0
IsDepth ts r = (r.code ≡ 11) × ((left : ℕ) × answers.IsTooDeep IsFile limit ts left × (r.line ≡ line_at ts left))

abbrev pub IsRefusal : List Token → FrontError → Type 0
IsRefusal ts (Refused r) = IsSyntax ts r ⊎ IsDepth ts r
IsRefusal ts NoMemory = Unit {0}

-- the answer to tokens with this tree
abbrev pub IsTreeOf : Tree → Result Tree FrontError → Type 0
IsTreeOf tree (Ok found) = found ≡ tree
IsTreeOf tree (Err (Refused r)) = ⊥
IsTreeOf tree (Err NoMemory) = Unit {0}
