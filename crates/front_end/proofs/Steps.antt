-- What each step of reading a source answers, by what the step before gave.
use Rattle.std.proofs.Common.{List, Result, Ok, Err, refl, sym}
use Rattle.vera_ast.specs.declared.refusal.FrontError.{FrontError}
use Rattle.vera_ast.specs.declared.refusal.FrontError.TheVariants.{Refused, NoMemory}
use Rattle.vera_ast.specs.declared.token.Token.{Token}
use Rattle.vera_ast.specs.declared.tree.items.Tree.{Tree}
use Rattle.vera_ast.specs.declared.typed.file.TypedTree.{TypedTree}
use Rattle.vera_parse.specs.Answer.{Parses, IsRefusal}
use Rattle.typing_rules.specs.Answers.{Answers}
use Rattle.front_end.specs.declared.purpose.Purpose.{Purpose}
use Rattle.front_end.specs.Answer.{ReadsTokens}
use Rattle.front_end.specs.Sources.{left_out, typed_unless}

pub not_parsed : (purpose : Purpose) (tokens : List Token) (e : FrontError) → IsRefusal tokens e → ReadsTokens purpose tokens (Err e)
not_parsed purpose tokens (Refused r) h = record { tree = Err r; is_parsed = h; of_tree = refl }
not_parsed purpose tokens NoMemory h = tt

pub parsed : (purpose : Purpose) (tokens : List Token) (tree : Tree) (result : Result TypedTree FrontError) → Parses tokens tree → Answers (typed_unless (left_out purpose tree) tree) result → ReadsTokens purpose tokens result
parsed purpose tokens tree (Ok t) h is = record { tree = Ok tree; is_parsed = h; of_tree = sym is }
parsed purpose tokens tree (Err (Refused r)) h is = record { tree = Ok tree; is_parsed = h; of_tree = sym is }
parsed purpose tokens tree (Err NoMemory) h is = tt
