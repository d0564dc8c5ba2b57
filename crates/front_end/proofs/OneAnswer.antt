-- A source has one answer.
use Rattle.std.proofs.Common.{◌≡◌, ℕ, List, Result, Ok, Err, sym, ap, ◌∙◌, subst}
use Rattle.vera_ast.specs.declared.refusal.FrontError.{FrontError}
use Rattle.vera_ast.specs.declared.refusal.FrontError.TheVariants.{Refused, NoMemory}
use Rattle.vera_ast.specs.declared.refusal.Refusal.{Refusal}
use Rattle.vera_ast.specs.declared.token.Token.{Token}
use Rattle.vera_ast.specs.declared.tree.items.Tree.{Tree}
use Rattle.vera_ast.specs.declared.typed.file.TypedTree.{TypedTree}
use Rattle.vera_lex.proofs.OneResult.{one_result}
use Rattle.vera_parse.proofs.Answered.{tree_alone, apart, refusal_alone}
use Rattle.typing_rules.specs.Answers.{Answers}
use Rattle.front_end.specs.declared.purpose.Purpose.{Purpose}
use Rattle.front_end.specs.Answer.{ReadsSource}
use Rattle.front_end.specs.Sources.{IsSource, IsParsed, OfTree, OfTokens}

one_parse : (tokens : List Token) (a b : Result Tree Refusal) → IsParsed tokens a → IsParsed tokens b → a ≡ b
one_parse tokens (Ok a) (Ok b) h k = ap Ok (tree_alone tokens a b h k)
one_parse tokens (Ok a) (Err r) h k = absurd (apart tokens a r h k)
one_parse tokens (Err r) (Ok b) h k = absurd (apart tokens b r k h)
one_parse tokens (Err r) (Err q) h k = ap Err (refusal_alone tokens r q h k)

of_one_tree : (purpose : Purpose) (tree : Result Tree Refusal) (a b : Result TypedTree Refusal) → OfTree purpose tree a → OfTree purpose tree b → a ≡ b
of_one_tree purpose (Ok tree) a b h k = h ∙ sym k
of_one_tree purpose (Err r) a b h k = h ∙ sym k

of_same_tokens : (purpose : Purpose) (tokens : Result (List Token) Refusal) (a b : Result TypedTree Refusal) → OfTokens purpose tokens a → OfTokens purpose tokens b → a ≡ b
of_same_tokens purpose (Ok tokens) a b h k =
    of_one_tree purpose k.tree a b (subst (λ (t : Result Tree Refusal). OfTree purpose t a) (one_parse tokens h.tree k.tree h.is_parsed k.is_parsed) h.of_tree) k.of_tree
of_same_tokens purpose (Err r) a b h k = h ∙ sym k

pub one_source : (purpose : Purpose) (bytes : List ℕ) (a b : Result TypedTree Refusal) → IsSource purpose bytes a → IsSource purpose bytes b → a ≡ b
one_source purpose bytes a b h k =
    of_same_tokens purpose k.tokens a b (subst (λ (o : Result (List Token) Refusal). OfTokens purpose o a) (one_result bytes h.tokens k.tokens h.is_lexed k.is_lexed) h.of_tokens) k.of_tokens

-- so what is answered is the one answer
pub no_other : (purpose : Purpose) (bytes : List ℕ) (result : Result TypedTree FrontError) → ReadsSource purpose bytes result → (answer : Result TypedTree Refusal) → IsSource purpose bytes answer → Answers answer result
no_other purpose bytes (Ok tree) h answer is = one_source purpose bytes answer (Ok tree) is h
no_other purpose bytes (Err (Refused r)) h answer is = one_source purpose bytes answer (Err r) is h
no_other purpose bytes (Err NoMemory) h answer is = tt
