-- What is answered to the bytes of a testbench. Each step goes on with what the one before gave: the tokens, the syntax
-- tree, then what isn't built yet, and at last the typed tree.
use Rattle.std.specs.Prelude.{◌≡◌, ℕ, List, Option, Some, None, Result, Ok, Err}
use Rattle.vera_ast.specs.declared.refusal.FrontError.TheVariants.{Refused}
use Rattle.vera_ast.specs.declared.refusal.Refusal.{Refusal}
use Rattle.vera_ast.specs.declared.token.Token.{Token}
use Rattle.vera_ast.specs.declared.tree.items.Tree.{Tree}
use Rattle.vera_ast.specs.declared.typed.file.TypedTree.{TypedTree}
use Rattle.vera_lex.specs.Tokens.{IsLexed}
use Rattle.vera_parse.specs.Answer.{Parses, IsRefusal}
use Rattle.not_built.specs.NotBuilt.{first_not_built, first_not_checked}
use Rattle.typing_rules.specs.Typing.{typed}
use Rattle.front_end.specs.declared.purpose.Purpose.{Purpose}
use Rattle.front_end.specs.declared.purpose.Purpose.TheVariants.{Check, Run}

-- the line of the first construct that isn't built for this purpose
abbrev pub left_out : Purpose → Tree → Option ℕ
left_out Check tree = first_not_checked tree
left_out Run tree = first_not_built tree

-- E90 where there is such a line, else what the rules of names and types give
abbrev pub typed_unless : Option ℕ → Tree → Result TypedTree Refusal
typed_unless (Some line) tree = Err (record { code = 90; line = line })
typed_unless None tree = typed tree

-- the tokens have this syntax tree, or this refusal
abbrev pub IsParsed : List Token → Result Tree Refusal → Type 0
IsParsed tokens (Ok tree) = Parses tokens tree
IsParsed tokens (Err refusal) = IsRefusal tokens (Refused refusal)

abbrev pub OfTree : Purpose → Result Tree Refusal → Result TypedTree Refusal → Type 0
OfTree purpose (Ok tree) answer = answer ≡ typed_unless (left_out purpose tree) tree
OfTree purpose (Err refusal) answer = answer ≡ Err refusal

-- what comes of the tokens
pub record IsOfTokens (purpose : Purpose) (tokens : List Token) (answer : Result TypedTree Refusal) : Type 0 where
  pub tree : Result Tree Refusal
  pub is_parsed : IsParsed tokens tree
  pub of_tree : OfTree purpose tree answer

abbrev pub OfTokens : Purpose → Result (List Token) Refusal → Result TypedTree Refusal → Type 0
OfTokens purpose (Ok tokens) answer = IsOfTokens purpose tokens answer
OfTokens purpose (Err refusal) answer = answer ≡ Err refusal

-- The bytes have this typed tree, or this first refusal.
pub record IsSource (purpose : Purpose) (bytes : List ℕ) (answer : Result TypedTree Refusal) : Type 0 where
  pub tokens : Result (List Token) Refusal
  pub is_lexed : IsLexed bytes tokens
  pub of_tokens : OfTokens purpose tokens answer
