-- What a source has that has a typed tree.
use Rattle.std.proofs.Common.{◌≡◌, ℕ, List, Option, Some, None, Result, Ok, Err, sym}
use Rattle.std.specs.Prelude.{IfOk}
use Rattle.vera_ast.specs.declared.refusal.FrontError.{FrontError}
use Rattle.vera_ast.specs.declared.refusal.Refusal.{Refusal}
use Rattle.vera_ast.specs.declared.token.Token.{Token}
use Rattle.vera_ast.specs.declared.tree.items.Tree.{Tree}
use Rattle.vera_ast.specs.declared.typed.file.TypedTree.{TypedTree}
use Rattle.vera_ast.specs.Signals.{signals_in, AreApart}
use Rattle.vera_lex.specs.Tokens.{IsLexed}
use Rattle.vera_parse.specs.Answer.{Parses}
use Rattle.typing_rules.specs.Typing.{typed}
use Rattle.typing_laws.specs.Trees.{HasOneProgram, NamesItsSignals}
use Rattle.typing_laws.proofs.DriveItems.{names_its_signals}
use Rattle.typing_laws.proofs.OneProgram.{one_program_there}
use Rattle.typing_laws.proofs.SignalsApart.{signals_apart}
use Rattle.source_names.proofs.LexedWords.{plain_words}
use Rattle.source_names.proofs.SignalNames.{plain_signals}
use Rattle.front_end.specs.declared.purpose.Purpose.{Purpose}
use Rattle.front_end.specs.Answer.{ReadsSource}
use Rattle.front_end.specs.Sources.{IsSource, IsParsed, OfTree, OfTokens, left_out, typed_unless}

-- the way from the bytes to the typed tree
record Way (bytes : List ℕ) (t : TypedTree) : Type 0 where
  tokens : List Token
  is_lexed : IsLexed bytes (Ok tokens)
  tree : Tree
  parses : Parses tokens tree
  is_typed : typed tree ≡ Ok t

unless_none : (line : Option ℕ) (tree : Tree) (t : TypedTree) → Ok t ≡ typed_unless line tree → typed tree ≡ Ok t
unless_none None tree t e = sym e
unless_none (Some line) tree t e = absurd cc

of_tree : (purpose : Purpose) (bytes : List ℕ) (tokens : List Token) (tree : Result Tree Refusal) (t : TypedTree) → IsLexed bytes (Ok tokens) → IsParsed tokens tree → OfTree purpose tree (Ok t) → Way bytes t
of_tree purpose bytes tokens (Ok tree) t l p e = record { tokens = tokens; is_lexed = l; tree = tree; parses = p; is_typed = unless_none (left_out purpose tree) tree t e }
of_tree purpose bytes tokens (Err r) t l p e = absurd cc

of_tokens : (purpose : Purpose) (bytes : List ℕ) (tokens : Result (List Token) Refusal) (t : TypedTree) → IsLexed bytes tokens → OfTokens purpose tokens (Ok t) → Way bytes t
of_tokens purpose bytes (Ok tokens) t l h = of_tree purpose bytes tokens h.tree t l h.is_parsed h.of_tree
of_tokens purpose bytes (Err r) t l h = absurd cc

way : (purpose : Purpose) (bytes : List ℕ) (t : TypedTree) → IsSource purpose bytes (Ok t) → Way bytes t
way purpose bytes t s = of_tokens purpose bytes s.tokens t s.is_lexed s.of_tokens

pub has_program : (purpose : Purpose) (bytes : List ℕ) (t : TypedTree) → IsSource purpose bytes (Ok t) → HasOneProgram t
has_program purpose bytes t s = let w = way purpose bytes t s in one_program_there w.tree t w.is_typed

pub names_signals : (purpose : Purpose) (bytes : List ℕ) (t : TypedTree) → IsSource purpose bytes (Ok t) → NamesItsSignals t
names_signals purpose bytes t s = let w = way purpose bytes t s in names_its_signals w.tree t w.is_typed

pub apart : (purpose : Purpose) (bytes : List ℕ) (t : TypedTree) → IsSource purpose bytes (Ok t) → AreApart (signals_in t.items)
apart purpose bytes t s =
    let w = way purpose bytes t s in
    signals_apart w.tree t (plain_signals w.tokens w.tree (plain_words bytes w.tokens w.is_lexed) w.parses) w.is_typed

-- the same of what is answered
pub answer_has_program : (purpose : Purpose) (bytes : List ℕ) (result : Result TypedTree FrontError) → ReadsSource purpose bytes result → IfOk result HasOneProgram
answer_has_program purpose bytes (Ok t) h = has_program purpose bytes t h
answer_has_program purpose bytes (Err e) h = tt

pub answer_names_signals : (purpose : Purpose) (bytes : List ℕ) (result : Result TypedTree FrontError) → ReadsSource purpose bytes result → IfOk result NamesItsSignals
answer_names_signals purpose bytes (Ok t) h = names_signals purpose bytes t h
answer_names_signals purpose bytes (Err e) h = tt

pub answer_apart : (purpose : Purpose) (bytes : List ℕ) (result : Result TypedTree FrontError) → ReadsSource purpose bytes result → IfOk result (λ t. AreApart (signals_in t.items))
answer_apart purpose bytes (Ok t) h = apart purpose bytes t h
answer_apart purpose bytes (Err e) h = tt
