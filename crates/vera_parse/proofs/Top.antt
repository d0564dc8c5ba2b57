-- What is answered to tokens.
use Rattle.std.proofs.Common.{◌≡◌, ℕ, true, List, [], Ok, Err}
use Rattle.grammar_laws.specs.Answers.{Reach, LeastIsDeep, IsSyntaxPlace, IsTooDeep}
use Rattle.grammar_laws.specs.Answers as answers
use Rattle.grammar_laws.specs.Words.{Cell, bare}
use Rattle.grammar_laws.specs.declared.fault.Fault.TheVariants.{Stop}
use Rattle.grammar_laws.specs.declared.fault.Why.{Why}
use Rattle.grammar_laws.specs.declared.fault.Why.TheVariants.{Syntax, Depth}
use Rattle.vera_ast.specs.declared.token.Token.{Token}
use Rattle.vera_ast.specs.declared.tree.items.Tree.{Tree}
use Rattle.vera_parse.specs.Answer.{IsFile}
use Rattle.vera_parse.specs.Grammar as g
use Rattle.vera_parse.specs.Reading as r
use Rattle.vera_parse.specs.ItemReading.{first_item}
use Rattle.parse_cursor.specs.Tokens.{kind_of}
use Rattle.grammar_laws.proofs.Whole as whole
use Rattle.grammar_laws.proofs.Reached as reached
use Rattle.parse_exprs.proofs.ExpressionLevels.{heights}
use Rattle.vera_parse.proofs.FileLaw.{file_law, enough}

pub file_ok : (limit : ℕ) (ts : List Token) (tree : Tree) (rest : List Token) → r.file limit ts ≡ Ok (tree, rest) → answers.Parses IsFile limit ts tree
unfolding r.file
file_ok = whole.whole_ok Token Tree kind_of heights true true first_item first_item [] r.file_items g.file file_law enough

pub same_tree : (limit : ℕ) (ts : List Token) (found tree : Tree) (rest : List Token) → r.file limit ts ≡ Ok (found, rest) → answers.Parses IsFile limit ts tree → found ≡ tree
unfolding r.file
same_tree = whole.same_value Token Tree kind_of heights true true first_item first_item [] r.file_items g.file file_law enough

pub no_tree : (limit : ℕ) (ts : List Token) (tree : Tree) (why : Why) (left : ℕ) → r.file limit ts ≡ Err (Stop why left) → answers.Parses IsFile limit ts tree → ⊥
unfolding r.file
no_tree = whole.no_value Token Tree kind_of heights true true first_item first_item [] r.file_items g.file file_law enough

pub file_syntax : (limit : ℕ) (ts : List Token) (left : ℕ) → r.file limit ts ≡ Err (Stop Syntax left) → IsSyntaxPlace IsFile limit ts left
unfolding r.file
file_syntax = whole.whole_syntax Token Tree kind_of heights true true first_item first_item [] r.file_items g.file file_law enough

pub file_deep : (limit : ℕ) (ts : List Token) (left : ℕ) → r.file limit ts ≡ Err (Stop Depth left) → IsTooDeep IsFile limit ts left
unfolding r.file
file_deep = whole.whole_deep Token Tree kind_of heights true true first_item first_item [] r.file_items g.file file_law enough

-- tokens have one tree at most, whatever their depth
pub one_tree : (w1 w2 : List (Cell Token)) (a b : Tree) → IsFile w1 a → IsFile w2 b → bare w1 ≡ bare w2 → a ≡ b
one_tree = whole.one_value Token Tree kind_of heights true true first_item first_item [] r.file_items g.file file_law enough

pub one_refusal : (limit : ℕ) (ts : List Token) (place left : ℕ) → IsSyntaxPlace IsFile limit ts place → IsTooDeep IsFile limit ts left → ⊥
one_refusal = reached.one_refusal Token Tree IsFile

-- a token is too deep where the least of its depths is, and it is the first such
pub least_is_deep : (limit : ℕ) (ts reach : List Token) (left : ℕ) → IsTooDeep IsFile limit ts left → Reach IsFile ts reach → LeastIsDeep IsFile limit ts reach left
least_is_deep = reached.least_is_deep Token Tree IsFile
